-- No part of a declaration has the end of the text in it, and a unit ends with it.
use Rattle.std.proofs.Common.{ℕ, Bool, List, Option, refl}
use Rattle.spl_reading.specs.spl_tree.declared.expressions.Kind.{Kind}
use Rattle.spl_reading.specs.spl_tree.Symbols.{Lexeme}
use Rattle.spl_reading.specs.spl_tree.Trees as tree
use Rattle.spl_reading.specs.spl_tree.StatementTrees as stat
use Rattle.spl_reading.specs.spl_tree.DeclarationTrees as decl
use Rattle.spl_reading.specs.spl_tree.DeclarationTrees.{Placed, UnitTree}
use Rattle.spl_reading.specs.spl_tree.Declarations as dl
use Rattle.spl_reading.specs.spl_tree.Declarations.{Separated, one, more, Options}
use Rattle.spl_reading.specs.spl_tree.Units.{Unit_of, unit}
use Rattle.spl_grammar.specs.Ends.{Ended, last}
use Rattle.spl_grammar.proofs.EndedParts.{token, ended_constant, ended_statement, ended_statements}

-- parts between commas
ended_separated : {A : Type 0} {P : A → List Lexeme → List Lexeme → Type 0}
    → ((a : A) (ts rest : List Lexeme) → P a ts rest → Ended rest → Ended ts) → {xs : List A} {ts rest : List Lexeme}
    → Separated P xs ts rest → Ended rest → Ended ts
ended_separated h (one p) e = h _ _ _ p e
ended_separated h (more p k l) e = h _ _ _ p (token k refl (ended_separated h l e))

ended_name : (a : Placed) (ts rest : List Lexeme) → dl.Name a ts rest → Ended rest → Ended ts
ended_name _ _ _ (dl.Name.name i) e = token i refl e

ended_names : {ns : List Placed} {ts rest : List Lexeme} → dl.Names ns ts rest → Ended rest → Ended ts
ended_names l e = ended_separated ended_name l e

ended_constants : {vs : List tree.Constant} {ts rest : List Lexeme} → dl.Constants vs ts rest → Ended rest → Ended ts
ended_constants l e = ended_separated (λ a ts rest p e. ended_constant p e) l e

ended_item : (a : decl.Item) (ts rest : List Lexeme) → dl.Item a ts rest → Ended rest → Ended ts
ended_item _ _ _ (dl.Item.plain i) e = token i refl e
ended_item _ _ _ (dl.Item.valued i k v) e = token i refl (token k refl (ended_constant v e))

ended_array : {vs : List tree.Constant} {i : decl.Item} {ts rest : List Lexeme} → dl.Array vs i ts rest → Ended rest
    → Ended ts
ended_array (dl.Array.bounds i o a k b z) e = token i refl
    (token o refl (ended_constant a (token k refl (ended_constant b (token z refl e)))))
ended_array (dl.Array.view i o m z q b) e = token i refl
    (token o refl (token m refl (token z refl (token q refl (token b refl e)))))

ended_arrays : {is : List decl.Item} {ts rest : List Lexeme} → dl.Arrays is ts rest → Ended rest → Ended ts
ended_arrays (dl.Arrays.one a) e = ended_array a e
ended_arrays (dl.Arrays.valued a k l) e = ended_array a (token k refl (ended_constants l e))
ended_arrays (dl.Arrays.more a k l) e = ended_array a (token k refl (ended_arrays l e))

ended_terms : {vs : List decl.Term} {ts rest : List Lexeme} → dl.Terms vs ts rest → Ended rest → Ended ts
ended_terms dl.Terms.none e = e
ended_terms (dl.Terms.more i _ c l) e = token i refl (ended_constant c (ended_terms l e))

ended_equal : (a : decl.Equal) (ts rest : List Lexeme) → dl.Equal a ts rest → Ended rest → Ended ts
ended_equal _ _ _ (dl.Equal.equal i j c l) e = token i refl (token j refl (ended_constant c (ended_terms l e)))

ended_result : {r : Option Kind} {ts rest : List Lexeme} → dl.Result r ts rest → Ended rest → Ended ts
ended_result dl.Result.absent e = e
ended_result (dl.Result.given i) e = token i refl e

ended_kind : {c : Kind} {ts rest : List Lexeme} → dl.OptionalKind c ts rest → Ended rest → Ended ts
ended_kind dl.OptionalKind.absent e = e
ended_kind (dl.OptionalKind.given i) e = token i refl e

ended_own : {b : Bool} {ts rest : List Lexeme} → dl.Own b ts rest → Ended rest → Ended ts
ended_own dl.Own.absent e = e
ended_own (dl.Own.given i) e = token i refl e

ended_parameters : {ns : List Placed} {ts rest : List Lexeme} → dl.Parameters ns ts rest → Ended rest → Ended ts
ended_parameters dl.Parameters.absent e = e
ended_parameters (dl.Parameters.given o l z) e = token o refl (ended_names l (token z refl e))

ended_values : {ns : List Placed} {ts rest : List Lexeme} → dl.Values ns ts rest → Ended rest → Ended ts
ended_values dl.Values.absent e = e
ended_values (dl.Values.given k v l) e = token k refl (token v refl (ended_names l e))

ended_specs : {ss : List decl.Spec} {ts rest : List Lexeme} → dl.Specs ss ts rest → Ended rest → Ended ts
ended_specs dl.Specs.none e = e
ended_specs (dl.Specs.words j u l x) e = token j refl (token u refl (ended_names l (ended_specs x e)))
ended_specs (dl.Specs.arrays j c u l x) e = token j refl
    (ended_kind c (token u refl (ended_names l (ended_specs x e))))

ended_options : {a c : Options} {ts rest : List Lexeme} → dl.OptionList a c ts rest → Ended rest → Ended ts
ended_options (dl.OptionList.one i _ _) e = token i refl e
ended_options (dl.OptionList.more i _ _ k l) e = token i refl (token k refl (ended_options l e))

ended_heading : {b : Bool} {h : decl.Heading} {ts rest : List Lexeme} → dl.Heading b h ts rest → Ended rest → Ended ts
ended_heading (dl.Heading.heading r p i ns vs ss k) e = ended_result r
    (token p refl (token i refl (ended_parameters ns (ended_values vs (ended_specs ss (token k refl e))))))

ended_subroutine : {n : ℕ} {h : decl.Heading} {ts rest : List Lexeme} → dl.SubroutineHeading n h ts rest → Ended rest
    → Ended ts
ended_subroutine (dl.SubroutineHeading.heading r p i ns vs ss k) e = ended_result r
    (token p refl (token i refl (ended_parameters ns (ended_values vs (ended_specs ss (token k refl e))))))

mutual
  ended_declaration : {u : Bool} {n : ℕ} {d : decl.Declaration} {ts rest : List Lexeme}
      → dl.Declaration u n d ts rest → Ended rest → Ended ts
  ended_declaration (dl.Declaration.simple o i l) e = ended_own o (token i refl (ended_separated ended_item l e))
  ended_declaration (dl.Declaration.array o c i l) e = ended_own o (ended_kind c (token i refl (ended_arrays l e)))
  ended_declaration (dl.Declaration.pointers_of i p l) e = token i refl (token p refl (ended_names l e))
  ended_declaration (dl.Declaration.equate i l) e = token i refl (ended_separated ended_equal l e)
  ended_declaration (dl.Declaration.intrinsic i l) e = token i refl (ended_names l e)
  ended_declaration (dl.Declaration.label i l) e = token i refl (ended_names l e)
  ended_declaration (dl.Declaration.procedure h b) e = ended_heading h (ended_body b e)
  ended_declaration (dl.Declaration.procedure_with h p o _ _ j b) e = ended_heading h
      (token p refl (ended_options o (token j refl (ended_body b e))))
  ended_declaration (dl.Declaration.forward h p o _) e = ended_heading h (token p refl (ended_options o e))
  ended_declaration (dl.Declaration.external h p o _) e = ended_heading h (token p refl (ended_options o e))
  ended_declaration (dl.Declaration.subroutine h x) e = ended_subroutine h (ended_statement x e)

  ended_declarations : {u after : Bool} {n : ℕ} {ds : List decl.Declaration} {ts rest : List Lexeme}
      → dl.Declarations u after n ds ts rest → Ended rest → Ended ts
  ended_declarations dl.Declarations.none e = e
  ended_declarations (dl.Declarations.more x _ k l) e = ended_declaration x (token k refl (ended_declarations l e))

  ended_body : {n : ℕ} {ds : List decl.Declaration} {xs : List stat.Statement} {ts rest : List Lexeme}
      → dl.Body n ds xs ts rest → Ended rest → Ended ts
  ended_body (dl.Body.block i l x z) e = token i refl (ended_declarations l (ended_statements x (token z refl e)))
  ended_body (dl.Body.single x _) e = ended_statement x e

-- a unit is a list that ends
pub ended_unit : {u : UnitTree} {ts : List Lexeme} → Unit_of u ts → Ended ts
ended_unit (unit i l x z d e) = token i refl
    (ended_declarations l (ended_statements x (token z refl (token d refl (last e)))))
