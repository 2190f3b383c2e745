-- What is read as a body or a unit is spelled; a fault comes behind tokens that open it, with the nesting.
use Rattle.std.proofs.Common.{ℕ, ◌+◌, ◌≡◌, ◌≤◌, Bool, true, false, List, [], ◌∷◌, map, refl, arith, ap, sym, ◌∙◌}
use Rattle.spl_reading.specs.spl_tree.declared.symbols.Symbol.{Symbol}
use Rattle.spl_reading.specs.spl_tree.declared.symbols.Symbol.TheVariants as s
use Rattle.spl_reading.specs.spl_tree.declared.symbols.Reserved.TheVariants as w
use Rattle.spl_reading.specs.spl_tree.Symbols.{Lexeme, Is}
use Rattle.spl_reading.specs.spl_tree.Parts as part
use Rattle.spl_reading.specs.spl_tree.OpenDeclarations as od
use Rattle.spl_reading.specs.spl_tree.OpenDeclarations.{is_begin, begins_block}
use Rattle.spl_reading.specs.spl_tree.OpenExpressions as op
use Rattle.spl_reading.specs.spl_tree.OpenExpressions.{nesting}
use Rattle.spl_reading.specs.spl_tree.StatementTrees as stat
use Rattle.spl_reading.specs.spl_tree.Statements as st
use Rattle.spl_reading.specs.spl_tree.DeclarationTrees as decl
use Rattle.spl_reading.specs.spl_tree.DeclarationTrees.{UnitTree, declarations}
use Rattle.spl_reading.specs.spl_tree.Declarations as dl
use Rattle.spl_reading.specs.spl_tree.Declarations.{can_be_body, is_subroutine}
use Rattle.spl_reading.specs.spl_tree.Units.{segment_at, Unit_of, unit}
use Rattle.spl_reading.specs.Readers.{Parser, followed, and_then, ◌>>=◌, pure, refuse, take, expect, same_symbol, symbol_number, reserved_number}
use Rattle.spl_reading.specs.ReadExpressions.{is}
use Rattle.spl_reading.specs.ReadStatements.{statement, statement_list}
use Rattle.spl_reading.specs.ReadDeclarations.{declaration_list, body, next_segment, of_segment}
use Rattle.spl_reading.specs.ReadDeclarations as rd
use Rattle.spl_grammar.specs.Answers.{Explains, bad}
use Rattle.spl_grammar.specs.UnitLaws.{SpelledDeclaration}
use Rattle.spl_reading.specs.ReadDeclarations.{bodies}
use Rattle.spl_grammar.proofs.ExplainReaders.{at_here, explain_then, explain_expect, explain_next, explain_pure, explain_bad, explain_symbol, explain_if, explain_as}
use Rattle.spl_grammar.proofs.ExplainReaders as er
use Rattle.spl_grammar.proofs.SoundOperands.{is_it, few}
use Rattle.spl_grammar.proofs.SoundLists.{ahead}
use Rattle.spl_grammar.proofs.SoundStatements.{list_at, statement_explained, list_explained}
use Rattle.spl_grammar.proofs.SoundDeclarations.{declaration_explained, declarations_explained}
use Rattle.spl_grammar.proofs.LocalReaders.{local_refuse}
use Rattle.spl_grammar.proofs.LocalDeclarations.{local_body}

-- Bodies.

-- two ways to say that no BEGIN stands there
not_begin : (k : Symbol) → is (s.Word w.Begin) k ≡ false → is_begin k ≡ false
unfolding same_symbol symbol_number reserved_number
not_begin (s.Word w.Begin) e = cc
not_begin _ e = refl

-- without BEGIN, what can't be a body has no token
no_body : {x : stat.Statement} {ts rest : List Lexeme} → st.Statement x ts rest → begins_block ts ≡ false
    → can_be_body x ≡ false → ts ≡ rest
no_body st.Statement.empty b e = refl
no_body (st.Statement.block i _ _) b e = absurd (both (sym (ap is_begin i) ∙ b))
  where
    both : true ≡ false → ⊥
    both q = cc
no_body v b e = cc

-- statements between a unit's or a body's declarations and its END
statements_explained : {most : ℕ} (room d : ℕ) (ts : List Lexeme) → d + room ≡ most + 0
    → Explains most (λ xs rest. st.Statements xs ts rest) part.statements d 0 ts (statement_list (statement room) ts)
statements_explained {most = most} room d ts sum = list_explained most d (few d room 0 sum (omega arith))
    (statement room) (λ us. explain_as (statement room us) (statement_explained room d us sum) (λ x rest v. v.spelled)) ts

-- BEGIN { decl ";" } statements END
block_body : {most : ℕ} (room d segment : ℕ) (b : Lexeme) (us : List Lexeme) → d + room ≡ most + 0
    → Is (s.Word w.Begin) b
    → Explains most (λ (x : rd.BodyRead) rest. dl.Body segment x.0 x.1 (b ∷ us) rest) part.body d 0 (b ∷ us)
    ((take >>= (λ _. declaration_list room (λ _. refuse) false segment >>=
    (λ ds. statement_list (statement room) >>= (λ xs. expect (s.Word w.End) >>= (λ _. pure (ds, xs)))))) (b ∷ us))
block_body {most = most} room d segment b us sum i = er.taken_explained _ (
    explain_then (declaration_list room (λ _. refuse) false segment) _ (op.of_declaration (od.body_declarations i))
    (declarations_explained most d room sum (λ _. refuse) false (λ e. cc) (λ _. local_refuse) segment us) (λ ds mid v.
    explain_then (statement_list (statement room)) _ (op.of_declaration (od.body_statements i v))
    (statements_explained room d mid sum) (λ xs after x.
    explain_expect (s.Word w.End) _ after (ahead (od.body_end i v x)) (few d room 0 sum (omega arith)) (λ z rest q j.
    explain_pure _ rest (dl.Body.block i v (list_at q x) j)))))

-- the body of a procedure
pub body_explained : {most : ℕ} (room d segment : ℕ) (ts : List Lexeme) → d + room ≡ most + 0
    → Explains most (λ (x : rd.BodyRead) rest. dl.Body segment x.0 x.1 ts rest) part.body d 0 ts (body room segment ts)
unfolding body
body_explained {most = most} room d segment ts sum = explain_symbol _ ts (at_here _ _ _ _)
    (few d room 0 sum (omega arith)) (λ b us q. rw q (explain_if (is (s.Word w.Begin) b.symbol) _ _ (b ∷ us)
    (λ e. block_body room d segment b us sum (is_it (s.Word w.Begin) b e))
    (λ e. let f = not_begin b.symbol e in
    explain_then (statement room) _ (op.of_declaration (od.body_statement f))
    (statement_explained room d (b ∷ us) sum) (λ x rest v.
    explain_if (can_be_body x) _ _ rest
    (λ g. explain_pure _ rest (dl.Body.single v.spelled g))
    (λ g. rw (← no_body v.spelled f g) (explain_bad _ (at_here _ _ _ _) (few d room 0 sum (omega arith))))))))

-- the bodies of procedures, where they are declared
bodies_explained : {most : ℕ} (room d segment : ℕ) (u : Bool) (ts : List Lexeme) → d + room ≡ most + 0 → u ≡ true
    → Explains most (λ (x : rd.BodyRead) rest. dl.Body segment x.0 x.1 ts rest) part.body d 0 ts
    (bodies room u segment ts)
bodies_explained room d segment true ts sum e = body_explained room d segment ts sum
bodies_explained room d segment false ts sum e = cc

-- a declaration of a unit or of a body
pub declaration_in : {most : ℕ} (room d : ℕ) (u after : Bool) (segment : ℕ) (ts : List Lexeme) → d + room ≡ most + 0
    → Explains most (λ x rest. SpelledDeclaration u after segment x ts rest) (part.declaration u after) d 0 ts
    (rd.declaration room (bodies room u) u after segment ts)
declaration_in {most = most} room d u after segment ts sum = declaration_explained most d room sum (bodies room u) u
    (λ e n us. bodies_explained room d n u us sum e) after segment ts

-- Units.

-- a declaration is a subroutine in any segment
same_subroutine : (n : ℕ) (x : decl.Declaration) → is_subroutine (of_segment n x) ≡ is_subroutine x
same_subroutine n (decl.Declaration.subroutine h x) = refl
same_subroutine n x = refl

-- a declaration of another segment
moved_declaration : {u : Bool} {segment : ℕ} {x : decl.Declaration} {ts rest : List Lexeme} (n : ℕ)
    → dl.Declaration u segment x ts rest → dl.Declaration u n (of_segment n x) ts rest
moved_declaration n (dl.Declaration.simple o i l) = dl.Declaration.simple o i l
moved_declaration n (dl.Declaration.array o c i l) = dl.Declaration.array o c i l
moved_declaration n (dl.Declaration.pointers_of i j l) = dl.Declaration.pointers_of i j l
moved_declaration n (dl.Declaration.equate i l) = dl.Declaration.equate i l
moved_declaration n (dl.Declaration.intrinsic i l) = dl.Declaration.intrinsic i l
moved_declaration n (dl.Declaration.label i l) = dl.Declaration.label i l
moved_declaration n (dl.Declaration.procedure h b) = dl.Declaration.procedure h b
moved_declaration n (dl.Declaration.procedure_with h p o f g j b) = dl.Declaration.procedure_with h p o f g j b
moved_declaration n (dl.Declaration.forward h p o f) = dl.Declaration.forward h p o f
moved_declaration n (dl.Declaration.external h p o f) = dl.Declaration.external h p o f
moved_declaration n (dl.Declaration.subroutine (dl.SubroutineHeading.heading r p i ns vs ss k) x) =
    dl.Declaration.subroutine (dl.SubroutineHeading.heading r p i ns vs ss k) x

-- declarations of another segment
moved_declarations : {u after : Bool} {segment : ℕ} {ds : List decl.Declaration} {ts rest : List Lexeme} (n : ℕ)
    → dl.Declarations u after segment ds ts rest → dl.Declarations u after n (map (of_segment n) ds) ts rest
moved_declarations n dl.Declarations.none = dl.Declarations.none
moved_declarations n (dl.Declarations.more {d = x} v e i l) = dl.Declarations.more (moved_declaration n v)
    (rw (same_subroutine n x) e) i (rw (same_subroutine n x) (moved_declarations n l))

-- what stands behind the declarations of a unit
segment_explained : {most : ℕ} {B : Type 0} {W : B → List Lexeme → Type 0} {p : part.Part} {d n : ℕ} {ts : List Lexeme}
    (f : ℕ → Parser B) (us : List Lexeme) (o : op.OpensAt p d n ts us) → nesting o.constructs o.operators ≤ most
    → Explains most W p d n ts (f (segment_at us) us) → Explains most W p d n ts (followed next_segment f us)
unfolding followed next_segment and_then
segment_explained f [] o l h = bad o l
segment_explained f (t ∷ us) o l h = h

-- A unit that was read: its parts, with whatever stands behind the end of the text.
pub record UnitRead (u : UnitTree) (ts rest : List Lexeme) : Type 0 where
  pub items : List decl.Declaration
  pub statements : List stat.Statement
  pub begin : Lexeme
  pub end : Lexeme
  pub dot : Lexeme
  pub stop : Lexeme
  pub first : List Lexeme
  pub middle : List Lexeme
  pub all : ts ≡ begin ∷ first
  pub made : u ≡ record { items = items; statements = statements; segment = segment_at middle; at = begin.at }
  pub is_begin : Is (s.Word w.Begin) begin
  pub declared : dl.Declarations true false (segment_at middle) items first middle
  pub spelled : st.Statements statements middle (end ∷ dot ∷ stop ∷ rest)
  pub is_end : Is (s.Word w.End) end
  pub is_dot : Is s.Dot dot
  pub is_stop : Is s.Stop stop

-- a unit by its parts; a fault comes behind tokens that open it
pub unit_parts : {most : ℕ} (room d : ℕ) (ts : List Lexeme) → d + room ≡ most + 0
    → Explains most (λ u rest. UnitRead u ts rest) part.unit d 0 ts (rd.unit room ts)
unfolding rd.unit
unit_parts {most = most} room d ts sum = let l = few d room 0 sum (omega arith) in
    explain_expect (s.Word w.Begin) _ ts (at_here _ _ _ _) l (λ b us q i. rw q (
    explain_then (declaration_list room (body room) true 0) _ (op.of_declaration (od.unit_declarations i))
    (declarations_explained most d room sum (body room) true (λ _ segment us. body_explained room d segment us sum)
    (local_body room) 0 us) (λ ds mid v.
    segment_explained _ mid (ahead (od.unit_statements i v)) l (
    explain_then (statement_list (statement room)) _ (op.of_declaration (od.unit_statements i v))
    (statements_explained room d mid sum) (λ xs after x.
    explain_expect (s.Word w.End) _ after (ahead (od.unit_end i v x)) l (λ z after_end q2 j.
    let x1 = list_at q2 x in
    explain_expect s.Dot _ after_end (ahead (od.unit_dot i v x1 j)) l (λ e after_dot q3 k.
    let x2 = list_at (ap (λ vs. z ∷ vs) q3) x1 in
    explain_expect s.Stop _ after_dot (ahead (od.unit_stop i v x2 j k)) l (λ y rest q4 o.
    explain_pure _ rest (record {
      items = map (of_segment (segment_at mid)) ds;
      statements = xs;
      begin = b;
      end = z;
      dot = e;
      stop = y;
      first = us;
      middle = mid;
      all = refl;
      made = refl;
      is_begin = i;
      declared = moved_declarations (segment_at mid) v;
      spelled = list_at (ap (λ vs. z ∷ e ∷ vs) q4) x2;
      is_end = j;
      is_dot = k;
      is_stop = o;
    })))))))))

-- where nothing stands behind it, the list spells it
pub unit_is : {u : UnitTree} {ts : List Lexeme} → UnitRead u ts [] → Unit_of u ts
unit_is x = rw (x.all, x.made) (unit x.is_begin x.declared x.spelled x.is_end x.is_dot x.is_stop)
