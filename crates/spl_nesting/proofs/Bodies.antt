-- A claim of the statements of all bodies is one of a unit: where it goes along the steps to a body, and to the greater of two.
use Rattle.std.proofs.Common.{◌≡◌, ℕ, max, Bool, true, false, List, [], ◌∷◌, ap}
use Rattle.std.specs.Prelude.{◌||◌, not}
use Rattle.spl_sound.specs.spl_tree.Symbols.{Lexeme}
use Rattle.spl_sound.specs.spl_tree.Trees.{Tree}
use Rattle.spl_sound.specs.spl_tree.StatementTrees as stat
use Rattle.spl_sound.specs.spl_tree.StatementTrees.{Statements, statements}
use Rattle.spl_sound.specs.spl_tree.Statements as st
use Rattle.spl_sound.specs.spl_tree.DeclarationTrees as decl
use Rattle.spl_sound.specs.spl_tree.DeclarationTrees.{declarations}
use Rattle.spl_sound.specs.spl_tree.Declarations as dl
use Rattle.spl_sound.specs.spl_tree.Declarations.{can_be_body, is_subroutine}
use Rattle.spl_sound.specs.spl_tree.Units as un
use Rattle.spl_sound.specs.spl_tree.Units.{Unit_of}
use Rattle.spl_sound.specs.spl_tree.Parts as part
use Rattle.spl_sound.specs.spl_tree.Parts.{Part}
use Rattle.spl_sound.specs.spl_tree.OpenDeclarations.{DeclarationStep, is_begin, begins_block}
use Rattle.spl_nesting.specs.Nesting.{most_in, most_in_all, most_in_unit}

-- a claim of a part that begins some tokens, with a number
pub record Goes (Claim : Part → List Lexeme → ℕ → Type 0) (measure : Statements → ℕ) : Type 0 where
  pub nothing : (p : Part) (ts : List Lexeme) → Claim p ts 0
  pub behind : (p q : Part) (ts mid : List Lexeme) (n : ℕ) → DeclarationStep p ts q mid → Claim q mid n → Claim p ts n
  pub both : (p : Part) (ts : List Lexeme) (a b : ℕ) → Claim p ts a → Claim p ts b → Claim p ts (max a b)
  pub list : (xs : List stat.Statement) (ts rest : List Lexeme) → st.Statements xs ts rest → Claim part.statements ts (measure (statements xs))
  pub single : (x : stat.Statement) (ts rest : List Lexeme) → st.Statement x ts rest → Claim part.statement ts (measure (statements (x ∷ [])))

-- a statement that can be a body does not begin with BEGIN
reference_first : {r : Tree} {ts rest : List Lexeme} → st.Reference r ts rest → begins_block ts ≡ false
reference_first (st.Reference.name i) = ap is_begin i
reference_first (st.Reference.element i _ _ _) = ap is_begin i

target_first : {x : stat.Target} {ts rest : List Lexeme} → st.Target x ts rest → begins_block ts ≡ false
target_first (st.Target.plain r) = reference_first r
target_first (st.Target.field r _ _ _ _ _ _) = reference_first r
target_first (st.Target.address i _) = ap is_begin i

effect_first : {x : stat.Effect} {ts rest : List Lexeme} → st.Effect x ts rest → begins_block ts ≡ false
effect_first (st.Effect.move i _ _ _) = ap is_begin i
effect_first (st.Effect.scan_while i _ _ _) = ap is_begin i
effect_first (st.Effect.scan_until i _ _ _) = ap is_begin i

body_first : {x : stat.Statement} {ts rest : List Lexeme} → st.Statement x ts rest → can_be_body x ≡ true → begins_block ts ≡ false
body_first st.Statement.empty e = cc
body_first (st.Statement.labelled i _ _) e = ap is_begin i
body_first (st.Statement.block i _ _) e = cc
body_first (st.Statement.if_then i _ _ _) e = ap is_begin i
body_first (st.Statement.if_else i _ _ _ _ _ _) e = ap is_begin i
body_first (st.Statement.while_do i _ _ _) e = ap is_begin i
body_first (st.Statement.do_until i _ _ _) e = ap is_begin i
body_first (st.Statement.for_do i _ _ _ _ _ _ _ _) e = ap is_begin i
body_first (st.Statement.case_of i _ _ _ _ _) e = ap is_begin i
body_first (st.Statement.go i _) e = ap is_begin i
body_first (st.Statement.go_to i _ _) e = ap is_begin i
body_first (st.Statement.goto i _) e = ap is_begin i
body_first (st.Statement.return i) e = ap is_begin i
body_first (st.Statement.assign x _ _) e = target_first x
body_first (st.Statement.assign_effect x _ _) e = target_first x
body_first (st.Statement.effect x) e = effect_first x
body_first (st.Statement.call i) e = ap is_begin i
body_first (st.Statement.call_with i _ _ _) e = ap is_begin i

-- from a declaration, declarations and a body on
mutual
  declaration_goes : (Claim : Part → List Lexeme → ℕ → Type 0) (measure : Statements → ℕ) → Goes Claim measure
      → {u : Bool} {segment : ℕ} {x : decl.Declaration} {ts rest : List Lexeme} → dl.Declaration u segment x ts rest
      → (after : Bool) → (is_subroutine x || not after) ≡ true → Claim (part.declaration u after) ts (most_in measure x)
  declaration_goes C m g (dl.Declaration.simple _ _ _) after e = g.nothing _ _
  declaration_goes C m g (dl.Declaration.array _ _ _ _) after e = g.nothing _ _
  declaration_goes C m g (dl.Declaration.pointers_of _ _ _) after e = g.nothing _ _
  declaration_goes C m g (dl.Declaration.equate _ _) after e = g.nothing _ _
  declaration_goes C m g (dl.Declaration.intrinsic _ _) after e = g.nothing _ _
  declaration_goes C m g (dl.Declaration.label _ _) after e = g.nothing _ _
  declaration_goes C m g (dl.Declaration.forward _ _ _ _) after e = g.nothing _ _
  declaration_goes C m g (dl.Declaration.external _ _ _ _) after e = g.nothing _ _
  declaration_goes C m g (dl.Declaration.procedure h b) false e = g.behind _ _ _ _ _ (DeclarationStep.procedure_body h) (body_goes C m g b)
  declaration_goes C m g (dl.Declaration.procedure h b) true e = cc
  declaration_goes C m g (dl.Declaration.procedure_with h i o f x k b) false e =
      g.behind _ _ _ _ _ (DeclarationStep.options_body h i o f x k) (body_goes C m g b)
  declaration_goes C m g (dl.Declaration.procedure_with h i o f x k b) true e = cc
  declaration_goes C m g (dl.Declaration.subroutine h x) after e = g.behind _ _ _ _ _ (DeclarationStep.subroutine_statement h) (g.single _ _ _ x)

  declarations_go : (Claim : Part → List Lexeme → ℕ → Type 0) (measure : Statements → ℕ) → Goes Claim measure
      → {u after : Bool} {segment : ℕ} {ds : List decl.Declaration} {ts rest : List Lexeme} → dl.Declarations u after segment ds ts rest
      → Claim (part.declarations u after) ts (most_in_all measure (declarations ds))
  declarations_go C m g dl.Declarations.none = g.nothing _ _
  declarations_go C m g (dl.Declarations.more x e k ds) = g.both _ _ _ _
      (g.behind _ _ _ _ _ DeclarationStep.declaration_of (declaration_goes C m g x _ e))
      (g.behind _ _ _ _ _ (DeclarationStep.next_declaration x e k) (declarations_go C m g ds))

  body_goes : (Claim : Part → List Lexeme → ℕ → Type 0) (measure : Statements → ℕ) → Goes Claim measure
      → {segment : ℕ} {ds : List decl.Declaration} {xs : List stat.Statement} {ts rest : List Lexeme} → dl.Body segment ds xs ts rest
      → Claim part.body ts (max (most_in_all measure (declarations ds)) (measure (statements xs)))
  body_goes C m g (dl.Body.block i ds xs z) = g.both _ _ _ _
      (g.behind _ _ _ _ _ (DeclarationStep.body_declarations i) (declarations_go C m g ds))
      (g.behind _ _ _ _ _ (DeclarationStep.body_statements i ds) (g.list _ _ _ xs))
  body_goes C m g (dl.Body.single x e) = g.both _ _ _ _ (g.nothing _ _)
      (g.behind _ _ _ _ _ (DeclarationStep.body_statement (body_first x e)) (g.single _ _ _ x))

-- a unit
pub unit_goes : (Claim : Part → List Lexeme → ℕ → Type 0) (measure : Statements → ℕ) → Goes Claim measure
    → {u : decl.UnitTree} {ts : List Lexeme} → Unit_of u ts → Claim part.unit ts (most_in_unit measure u)
unit_goes C m g (un.Unit_of.unit i ds xs z d e) = g.both _ _ _ _
    (g.behind _ _ _ _ _ (DeclarationStep.unit_declarations i) (declarations_go C m g ds))
    (g.behind _ _ _ _ _ (DeclarationStep.unit_statements i ds) (g.list _ _ _ xs))
