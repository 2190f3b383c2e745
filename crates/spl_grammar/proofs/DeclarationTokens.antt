-- The tokens of declarations and of their parts.
use Rattle.std.proofs.Common.{ℕ, ◌<◌, ◌≤◌, Bool, List, length, Option, arith}
use Rattle.spl_reading.specs.spl_tree.declared.expressions.Kind.{Kind}
use Rattle.spl_reading.specs.spl_tree.Symbols.{Lexeme}
use Rattle.spl_reading.specs.spl_tree.Expressions as g
use Rattle.spl_reading.specs.spl_tree.Trees as tree
use Rattle.spl_reading.specs.spl_tree.StatementTrees as stat
use Rattle.spl_reading.specs.spl_tree.DeclarationTrees as decl
use Rattle.spl_reading.specs.spl_tree.DeclarationTrees.{Placed}
use Rattle.spl_reading.specs.spl_tree.Declarations as dl
use Rattle.spl_reading.specs.spl_tree.Declarations.{Separated, one, more, Options}
use Rattle.spl_reading.specs.spl_tree.Parts.{Part}
use Rattle.spl_reading.specs.spl_tree.OpenDeclarations as od
use Rattle.spl_reading.specs.spl_tree.OpenDeclarations.{DeclarationStep}
use Rattle.spl_grammar.proofs.PartTokens as pt
use Rattle.spl_grammar.proofs.StatementTokens as tk

shorter_separated : {A : Type 0} (P : A → List Lexeme → List Lexeme → Type 0)
    → ((a : A) (ts rest : List Lexeme) → P a ts rest → length rest < length ts) → {xs : List A} {ts rest : List Lexeme}
    → Separated P xs ts rest → length rest < length ts
shorter_separated P h (one p) = h _ _ _ p
shorter_separated P h (more p i l) = let a = h _ _ _ p in let b = shorter_separated P h l in omega arith

shorter_name : {n : Placed} {ts rest : List Lexeme} → dl.Name n ts rest → length rest < length ts
shorter_name (dl.Name.name i) = omega arith

shorter_names : {ns : List Placed} {ts rest : List Lexeme} → dl.Names ns ts rest → length rest < length ts
shorter_names l = shorter_separated dl.Name (λ a ts rest p. shorter_name p) l

shorter_item : {i : decl.Item} {ts rest : List Lexeme} → dl.Item i ts rest → length rest < length ts
shorter_item (dl.Item.plain i) = omega arith
shorter_item (dl.Item.valued i k v) = let a = pt.shorter_constant v in omega arith

shorter_items : {is : List decl.Item} {ts rest : List Lexeme} → dl.Items is ts rest → length rest < length ts
shorter_items l = shorter_separated dl.Item (λ a ts rest p. shorter_item p) l

shorter_array : {vs : List tree.Constant} {i : decl.Item} {ts rest : List Lexeme} → dl.Array vs i ts rest
    → length rest < length ts
shorter_array (dl.Array.bounds i o a k b z) = let m = pt.shorter_constant a in let n = pt.shorter_constant b in omega
    arith
shorter_array (dl.Array.view i o m z e b) = omega arith

shorter_arrays : {is : List decl.Item} {ts rest : List Lexeme} → dl.Arrays is ts rest → length rest < length ts
shorter_arrays (dl.Arrays.one a) = shorter_array a
shorter_arrays (dl.Arrays.valued a k l) = let m = shorter_array a in let n = shorter_separated g.Constant (λ a ts rest p. pt.shorter_constant p) l in omega arith
shorter_arrays (dl.Arrays.more a k l) = let m = shorter_array a in let n = shorter_arrays l in omega arith

no_longer_terms : {vs : List decl.Term} {ts rest : List Lexeme} → dl.Terms vs ts rest → length rest ≤ length ts
no_longer_terms dl.Terms.none = omega arith
no_longer_terms (dl.Terms.more i b c l) = let m = pt.shorter_constant c in let n = no_longer_terms l in omega arith

shorter_equal : {e : decl.Equal} {ts rest : List Lexeme} → dl.Equal e ts rest → length rest < length ts
shorter_equal (dl.Equal.equal i j c l) = let m = pt.shorter_constant c in let n = no_longer_terms l in omega arith

shorter_equals : {es : List decl.Equal} {ts rest : List Lexeme} → dl.Equals es ts rest → length rest < length ts
shorter_equals l = shorter_separated dl.Equal (λ a ts rest p. shorter_equal p) l

no_longer_result : {r : Option Kind} {ts rest : List Lexeme} → dl.Result r ts rest → length rest ≤ length ts
no_longer_result dl.Result.absent = omega arith
no_longer_result (dl.Result.given i) = omega arith

no_longer_kind : {c : Kind} {ts rest : List Lexeme} → dl.OptionalKind c ts rest → length rest ≤ length ts
no_longer_kind dl.OptionalKind.absent = omega arith
no_longer_kind (dl.OptionalKind.given i) = omega arith

no_longer_own : {b : Bool} {ts rest : List Lexeme} → dl.Own b ts rest → length rest ≤ length ts
no_longer_own dl.Own.absent = omega arith
no_longer_own (dl.Own.given i) = omega arith

no_longer_parameters : {ns : List Placed} {ts rest : List Lexeme} → dl.Parameters ns ts rest → length rest ≤ length ts
no_longer_parameters dl.Parameters.absent = omega arith
no_longer_parameters (dl.Parameters.given o l z) = let a = shorter_names l in omega arith

no_longer_values : {ns : List Placed} {ts rest : List Lexeme} → dl.Values ns ts rest → length rest ≤ length ts
no_longer_values dl.Values.absent = omega arith
no_longer_values (dl.Values.given k v l) = let a = shorter_names l in omega arith

no_longer_specs : {ss : List decl.Spec} {ts rest : List Lexeme} → dl.Specs ss ts rest → length rest ≤ length ts
no_longer_specs dl.Specs.none = omega arith
no_longer_specs (dl.Specs.words j u l x) = let a = shorter_names l in let b = no_longer_specs x in omega arith
no_longer_specs (dl.Specs.arrays j c u l x) = let d = no_longer_kind c in let a = shorter_names l in let b =
    no_longer_specs x in omega arith

pub shorter_options : {a c : Options} {ts rest : List Lexeme} → dl.OptionList a c ts rest → length rest < length ts
shorter_options (dl.OptionList.one i e f) = omega arith
shorter_options (dl.OptionList.more i e f k l) = let a = shorter_options l in omega arith

shorter_heading : {b : Bool} {h : decl.Heading} {ts rest : List Lexeme} → dl.Heading b h ts rest
    → length rest < length ts
shorter_heading (dl.Heading.heading r p i ns vs ss k) = let a = no_longer_result r in let b = no_longer_parameters ns
    in let c = no_longer_values vs in let d = no_longer_specs ss in omega arith

shorter_subroutine : {n : ℕ} {h : decl.Heading} {ts rest : List Lexeme} → dl.SubroutineHeading n h ts rest
    → length rest < length ts
shorter_subroutine (dl.SubroutineHeading.heading r p i ns vs ss k) = let a = no_longer_result r in let b =
    no_longer_parameters ns in let c = no_longer_values vs in let d = no_longer_specs ss in omega arith

mutual
  shorter_declaration : {u : Bool} {n : ℕ} {d : decl.Declaration} {ts rest : List Lexeme}
      → dl.Declaration u n d ts rest → length rest < length ts
  shorter_declaration (dl.Declaration.simple o i l) = let a = no_longer_own o in let b = shorter_items l in omega arith
  shorter_declaration (dl.Declaration.array o c i l) = let a = no_longer_own o in let d = no_longer_kind c in let b =
      shorter_arrays l in omega arith
  shorter_declaration (dl.Declaration.pointers_of i p l) = let b = shorter_names l in omega arith
  shorter_declaration (dl.Declaration.equate i l) = let b = shorter_equals l in omega arith
  shorter_declaration (dl.Declaration.intrinsic i l) = let b = shorter_names l in omega arith
  shorter_declaration (dl.Declaration.label i l) = let b = shorter_names l in omega arith
  shorter_declaration (dl.Declaration.procedure h b) = let a = shorter_heading h in let c = no_longer_body b in omega
      arith
  shorter_declaration (dl.Declaration.procedure_with h p o f g j b) = let a = shorter_heading h in let d =
      shorter_options o in let c = no_longer_body b in omega arith
  shorter_declaration (dl.Declaration.forward h p o f) = let a = shorter_heading h in let d = shorter_options o in
      omega arith
  shorter_declaration (dl.Declaration.external h p o f) = let a = shorter_heading h in let d = shorter_options o in
      omega arith
  shorter_declaration (dl.Declaration.subroutine h x) = let a = shorter_subroutine h in let b = tk.no_longer x in omega
      arith

  pub no_longer_declarations : {u after : Bool} {n : ℕ} {ds : List decl.Declaration} {ts rest : List Lexeme}
      → dl.Declarations u after n ds ts rest → length rest ≤ length ts
  no_longer_declarations dl.Declarations.none = omega arith
  no_longer_declarations (dl.Declarations.more x e k l) = let a = shorter_declaration x in let b =
      no_longer_declarations l in omega arith

  no_longer_body : {n : ℕ} {ds : List decl.Declaration} {xs : List stat.Statement} {ts rest : List Lexeme}
      → dl.Body n ds xs ts rest → length rest ≤ length ts
  no_longer_body (dl.Body.block i l x z) = let a = no_longer_declarations l in let b = tk.no_longer_list x in omega
      arith
  no_longer_body (dl.Body.single x c) = tk.no_longer x

-- no step goes back
pub declaration_step_bound : {p q : Part} {ts mid : List Lexeme} → DeclarationStep p ts q mid → length mid ≤ length ts
declaration_step_bound (od.names_comma a) = let la = shorter_name a in omega arith
declaration_step_bound (od.names_next a _) = let la = shorter_name a in omega arith
declaration_step_bound od.constants_part = omega arith
declaration_step_bound (od.constants_comma a) = let la = pt.shorter_constant a in omega arith
declaration_step_bound (od.constants_next a _) = let la = pt.shorter_constant a in omega arith
declaration_step_bound od.items_part = omega arith
declaration_step_bound (od.items_comma a) = let la = shorter_item a in omega arith
declaration_step_bound (od.items_next a _) = let la = shorter_item a in omega arith
declaration_step_bound od.equals_part = omega arith
declaration_step_bound (od.equals_comma a) = let la = shorter_equal a in omega arith
declaration_step_bound (od.equals_next a _) = let la = shorter_equal a in omega arith
declaration_step_bound (od.item_assign _) = omega arith
declaration_step_bound (od.item_value _ _) = omega arith
declaration_step_bound (od.equal_mark _) = omega arith
declaration_step_bound (od.equal_value _ _) = omega arith
declaration_step_bound (od.equal_sign _ _ c e) = let lc = pt.shorter_constant c in let le = no_longer_terms e in omega
    arith
declaration_step_bound (od.equal_term _ _ c e _ _) = let lc = pt.shorter_constant c in let le = no_longer_terms e in
    omega arith
declaration_step_bound (od.array_open _) = omega arith
declaration_step_bound (od.array_low _ _) = omega arith
declaration_step_bound (od.array_colon _ _ c) = let lc = pt.shorter_constant c in omega arith
declaration_step_bound (od.array_high _ _ c _) = let lc = pt.shorter_constant c in omega arith
declaration_step_bound (od.array_close _ _ c _ f) = let lc = pt.shorter_constant c in let lf = pt.shorter_constant f in
    omega arith
declaration_step_bound (od.view_star _ _) = omega arith
declaration_step_bound (od.view_close _ _ _) = omega arith
declaration_step_bound (od.view_equal _ _ _ _) = omega arith
declaration_step_bound (od.view_base _ _ _ _ _) = omega arith
declaration_step_bound od.arrays_part = omega arith
declaration_step_bound (od.arrays_mark a) = let la = shorter_array a in omega arith
declaration_step_bound (od.arrays_next a _) = let la = shorter_array a in omega arith
declaration_step_bound (od.arrays_values a _) = let la = shorter_array a in omega arith
declaration_step_bound (od.options_comma _ _ _) = omega arith
declaration_step_bound (od.options_next _ _ _ _) = omega arith
declaration_step_bound (od.heading_word _) = omega arith
declaration_step_bound (od.heading_name a _) = let la = no_longer_result a in omega arith
declaration_step_bound (od.heading_mark a _ _) = let la = no_longer_result a in omega arith
declaration_step_bound (od.heading_names a _ _ _) = let la = no_longer_result a in omega arith
declaration_step_bound (od.heading_close a _ _ _ f) = let la = no_longer_result a in let lf = shorter_names f in omega
    arith
declaration_step_bound (od.heading_semicolon a _ _ e) = let la = no_longer_result a in let le = no_longer_parameters e
    in omega arith
declaration_step_bound (od.heading_values a _ _ e _ _) = let la = no_longer_result a in let le = no_longer_parameters e
    in omega arith
declaration_step_bound (od.heading_specs a _ _ e f g) = let la = no_longer_result a in let le = no_longer_parameters e
    in let lf = no_longer_values f in let lg = no_longer_specs g in omega arith
declaration_step_bound (od.heading_spec a _ _ e f g _) = let la = no_longer_result a in let le = no_longer_parameters e
    in let lf = no_longer_values f in let lg = no_longer_specs g in omega arith
declaration_step_bound (od.heading_spec_names a _ _ e f g _ _) = let la = no_longer_result a in let le =
    no_longer_parameters e in let lf = no_longer_values f in let lg = no_longer_specs g in omega arith
declaration_step_bound (od.heading_spec_array a _ _ e f g _ _) = let la = no_longer_result a in let le =
    no_longer_parameters e in let lf = no_longer_values f in let lg = no_longer_specs g in omega arith
declaration_step_bound (od.heading_array_names a _ _ e f g _ i _) = let la = no_longer_result a in let le =
    no_longer_parameters e in let lf = no_longer_values f in let lg = no_longer_specs g in let li = no_longer_kind i in
    omega arith
declaration_step_bound (od.own _) = omega arith
declaration_step_bound (od.type_mark a _) = let la = no_longer_own a in omega arith
declaration_step_bound (od.simple_items a _) = let la = no_longer_own a in omega arith
declaration_step_bound (od.array_list a b _) = let la = no_longer_own a in let lb = no_longer_kind b in omega arith
declaration_step_bound (od.pointer_names _ _) = omega arith
declaration_step_bound (od.equate_list _) = omega arith
declaration_step_bound (od.intrinsic_names _) = omega arith
declaration_step_bound (od.label_names _) = omega arith
declaration_step_bound od.procedure_heading = omega arith
declaration_step_bound (od.procedure_body a) = let la = shorter_heading a in omega arith
declaration_step_bound (od.procedure_options a _) = let la = shorter_heading a in omega arith
declaration_step_bound (od.options_semicolon a _ c) = let la = shorter_heading a in let lc = shorter_options c in omega
    arith
declaration_step_bound (od.options_body a _ c _ _ _) = let la = shorter_heading a in let lc = shorter_options c in
    omega arith
declaration_step_bound od.subroutine_heading = omega arith
declaration_step_bound (od.subroutine_statement a) = let la = shorter_subroutine a in omega arith
declaration_step_bound od.declaration_of = omega arith
declaration_step_bound (od.declaration_end a _) = let la = shorter_declaration a in omega arith
declaration_step_bound (od.next_declaration a _ _) = let la = shorter_declaration a in omega arith
declaration_step_bound (od.body_declarations _) = omega arith
declaration_step_bound (od.body_statements _ b) = let lb = no_longer_declarations b in omega arith
declaration_step_bound (od.body_end _ b c) = let lb = no_longer_declarations b in let lc = tk.no_longer_list c in omega
    arith
declaration_step_bound (od.body_statement _) = omega arith
declaration_step_bound (od.unit_declarations _) = omega arith
declaration_step_bound (od.unit_statements _ b) = let lb = no_longer_declarations b in omega arith
declaration_step_bound (od.unit_end _ b c) = let lb = no_longer_declarations b in let lc = tk.no_longer_list c in omega
    arith
declaration_step_bound (od.unit_dot _ b c _) = let lb = no_longer_declarations b in let lc = tk.no_longer_list c in
    omega arith
declaration_step_bound (od.unit_stop _ b c _ _) = let lb = no_longer_declarations b in let lc = tk.no_longer_list c in
    omega arith
