-- A part of a declaration depends on no token behind it.
use Rattle.std.proofs.Common.{ℕ, ◌≡◌, ◌<◌, ◌||◌, not, Bool, true, false, List, [], ◌∷◌, length, Option, refl, arith, ap, sym, ◌∙◌}
use Rattle.spl_reading.specs.spl_tree.declared.expressions.Kind.{Kind}
use Rattle.spl_reading.specs.spl_tree.Symbols.{Lexeme}
use Rattle.spl_reading.specs.spl_tree.Expressions as g
use Rattle.spl_reading.specs.spl_tree.Trees as tree
use Rattle.spl_reading.specs.spl_tree.StatementTrees as stat
use Rattle.spl_reading.specs.spl_tree.Statements as st
use Rattle.spl_reading.specs.spl_tree.DeclarationTrees as decl
use Rattle.spl_reading.specs.spl_tree.DeclarationTrees.{Placed}
use Rattle.spl_reading.specs.spl_tree.Declarations as dl
use Rattle.spl_reading.specs.spl_tree.Declarations.{Separated, Options, can_be_body, is_subroutine}
use Rattle.spl_reading.specs.spl_tree.OpenDeclarations.{is_begin, begins_block}
use Rattle.spl_grammar.proofs.PartTokens as pt
use Rattle.spl_grammar.proofs.StatementTokens as tk
use Rattle.spl_grammar.proofs.MovedParts.{Swap, same, behind, along, swap_length, Moved, move_constant}
use Rattle.spl_grammar.proofs.MovedStatements.{move_statement, move_statements}

-- some part of a family that is spelled
pub record Some_of {A : Type 0} (P : A → List Lexeme → List Lexeme → Type 0) (ts rest : List Lexeme) : Type 0 where
  pub tree : A
  pub spelled : P tree ts rest

-- what stands at a list, as the part moved to it
pub moved_to : {A : Type 0} {P : A → List Lexeme → List Lexeme → Type 0} (a : A) {ts rest next to more : List Lexeme}
    → Swap rest next ts to → P a to more → Moved (Some_of P) ts rest next more
moved_to a w p = record { to = _; swap = w; whole = record { tree = a; spelled = p } }

-- what moves in itself
abbrev pub Moves : {A : Type 0} → (A → List Lexeme → List Lexeme → Type 0) → Type 0
Moves {A} P = (a : A) (ts rest : List Lexeme) → P a ts rest → (more : List Lexeme) → Moved (Some_of P) ts rest more more

-- parts between commas
pub move_separated : {A : Type 0} {P : A → List Lexeme → List Lexeme → Type 0} {xs : List A} {ts rest : List Lexeme}
    → Moves P → Separated P xs ts rest → (more : List Lexeme) → Moved (Some_of (Separated P)) ts rest more more
move_separated m (dl.Separated.one p) more = let a = m _ _ _ p more in moved_to _ a.swap (dl.Separated.one a.whole.spelled)
move_separated m (dl.Separated.more {k = k} p i l) more = let b = move_separated m l more in let a = m _ _ _ p (k ∷ b.to) in
    moved_to _ (along a.swap (behind b.swap)) (dl.Separated.more a.whole.spelled i b.whole.spelled)

-- a name
moves_name : Moves dl.Name
moves_name _ _ _ (dl.Name.name i) more = moved_to _ (behind same) (dl.Name.name i)

-- a constant
moves_constant : Moves g.Constant
moves_constant _ _ _ v more = let a = move_constant v more in moved_to _ a.swap a.whole.spelled

-- names
pub move_names : {ns : List Placed} {ts rest : List Lexeme} → dl.Names ns ts rest → (more : List Lexeme)
    → Moved (Some_of dl.Names) ts rest more more
move_names l more = move_separated moves_name l more

-- constants
pub move_constants : {vs : List tree.Constant} {ts rest : List Lexeme} → dl.Constants vs ts rest → (more : List Lexeme)
    → Moved (Some_of dl.Constants) ts rest more more
move_constants l more = move_separated moves_constant l more

-- one name
pub move_name : {a : Placed} {ts rest : List Lexeme} → dl.Name a ts rest → (more : List Lexeme)
    → Moved (Some_of dl.Name) ts rest more more
move_name n more = moves_name _ _ _ n more

-- kinds, results and OWN, which may be absent
pub move_kind : {k : Kind} {ts rest : List Lexeme} → dl.OptionalKind k ts rest → (more : List Lexeme)
    → Moved (Some_of dl.OptionalKind) ts rest more more
move_kind dl.OptionalKind.absent more = moved_to _ same dl.OptionalKind.absent
move_kind (dl.OptionalKind.given i) more = moved_to _ (behind same) (dl.OptionalKind.given i)

-- the type of a result
pub move_result : {r : Option Kind} {ts rest : List Lexeme} → dl.Result r ts rest → (more : List Lexeme)
    → Moved (Some_of dl.Result) ts rest more more
move_result dl.Result.absent more = moved_to _ same dl.Result.absent
move_result (dl.Result.given i) more = moved_to _ (behind same) (dl.Result.given i)

-- OWN
pub move_own : {b : Bool} {ts rest : List Lexeme} → dl.Own b ts rest → (more : List Lexeme)
    → Moved (Some_of dl.Own) ts rest more more
move_own dl.Own.absent more = moved_to _ same dl.Own.absent
move_own (dl.Own.given i) more = moved_to _ (behind same) (dl.Own.given i)

-- items and arrays
moves_item : Moves dl.Item
moves_item _ _ _ (dl.Item.plain i) more = moved_to _ (behind same) (dl.Item.plain i)
moves_item _ _ _ (dl.Item.valued i k v) more = let a = move_constant v more in
    moved_to _ (behind (behind a.swap)) (dl.Item.valued i k a.whole.spelled)

-- an item
pub move_item : {a : decl.Item} {ts rest : List Lexeme} → dl.Item a ts rest → (more : List Lexeme)
    → Moved (Some_of dl.Item) ts rest more more
move_item n more = moves_item _ _ _ n more

-- items
pub move_items : {is : List decl.Item} {ts rest : List Lexeme} → dl.Items is ts rest → (more : List Lexeme)
    → Moved (Some_of dl.Items) ts rest more more
move_items l more = move_separated moves_item l more

-- an array, with any initial values
pub move_array : {vs : List tree.Constant} (us : List tree.Constant) {a : decl.Item} {ts rest : List Lexeme}
    → dl.Array vs a ts rest → (more : List Lexeme) → Moved (Some_of (dl.Array us)) ts rest more more
move_array us (dl.Array.bounds {k = k} {z = z} i o a j b y) more = let n = move_constant b (z ∷ more) in
    let m = move_constant a (k ∷ n.to) in
    moved_to _ (behind (behind (along m.swap (behind (along n.swap (behind same))))))
    (dl.Array.bounds i o m.whole.spelled j n.whole.spelled y)
move_array us (dl.Array.view i o m z e b) more =
    moved_to _ (behind (behind (behind (behind (behind (behind same)))))) (dl.Array.view i o m z e b)

-- arrays
pub move_arrays : {is : List decl.Item} {ts rest : List Lexeme} → dl.Arrays is ts rest → (more : List Lexeme)
    → Moved (Some_of dl.Arrays) ts rest more more
move_arrays (dl.Arrays.one a) more = let m = move_array [] a more in moved_to _ m.swap (dl.Arrays.one m.whole.spelled)
move_arrays (dl.Arrays.valued {k = k} a i l) more = let n = move_constants l more in
    let m = move_array n.whole.tree a (k ∷ n.to) in
    moved_to _ (along m.swap (behind n.swap)) (dl.Arrays.valued m.whole.spelled i n.whole.spelled)
move_arrays (dl.Arrays.more {k = k} a i l) more = let n = move_arrays l more in let m = move_array [] a (k ∷ n.to) in
    moved_to _ (along m.swap (behind n.swap)) (dl.Arrays.more m.whole.spelled i n.whole.spelled)

-- sums of constants
pub move_terms : {vs : List decl.Term} {ts rest : List Lexeme} → dl.Terms vs ts rest → (more : List Lexeme)
    → Moved (Some_of dl.Terms) ts rest more more
move_terms dl.Terms.none more = moved_to _ same dl.Terms.none
move_terms (dl.Terms.more i b v l) more = let n = move_terms l more in let m = move_constant v n.to in
    moved_to _ (behind (along m.swap n.swap)) (dl.Terms.more i b m.whole.spelled n.whole.spelled)

-- an equation
moves_equal : Moves dl.Equal
moves_equal _ _ _ (dl.Equal.equal i j v l) more = let n = move_terms l more in let m = move_constant v n.to in
    moved_to _ (behind (behind (along m.swap n.swap))) (dl.Equal.equal i j m.whole.spelled n.whole.spelled)

-- one equation
pub move_equal : {a : decl.Equal} {ts rest : List Lexeme} → dl.Equal a ts rest → (more : List Lexeme)
    → Moved (Some_of dl.Equal) ts rest more more
move_equal n more = moves_equal _ _ _ n more

-- equations
pub move_equals : {es : List decl.Equal} {ts rest : List Lexeme} → dl.Equals es ts rest → (more : List Lexeme)
    → Moved (Some_of dl.Equals) ts rest more more
move_equals l more = move_separated moves_equal l more

-- the parts of a heading
pub move_parameters : {ns : List Placed} {ts rest : List Lexeme} → dl.Parameters ns ts rest → (more : List Lexeme)
    → Moved (Some_of dl.Parameters) ts rest more more
move_parameters dl.Parameters.absent more = moved_to _ same dl.Parameters.absent
move_parameters (dl.Parameters.given {z = z} i l y) more = let m = move_names l (z ∷ more) in
    moved_to _ (behind (along m.swap (behind same))) (dl.Parameters.given i m.whole.spelled y)

-- the parameters by value
pub move_values : {ns : List Placed} {ts rest : List Lexeme} → dl.Values ns ts rest → (more : List Lexeme)
    → Moved (Some_of dl.Values) ts rest more more
move_values dl.Values.absent more = moved_to _ same dl.Values.absent
move_values (dl.Values.given i j l) more = let m = move_names l more in
    moved_to _ (behind (behind m.swap)) (dl.Values.given i j m.whole.spelled)

-- the specifications
pub move_specs : {ss : List decl.Spec} {ts rest : List Lexeme} → dl.Specs ss ts rest → (more : List Lexeme)
    → Moved (Some_of dl.Specs) ts rest more more
move_specs dl.Specs.none more = moved_to _ same dl.Specs.none
move_specs (dl.Specs.words i j l ss) more = let n = move_specs ss more in let m = move_names l n.to in
    moved_to _ (behind (behind (along m.swap n.swap))) (dl.Specs.words i j m.whole.spelled n.whole.spelled)
move_specs (dl.Specs.arrays {a = a} i k j l ss) more = let n = move_specs ss more in let m = move_names l n.to in
    let c = move_kind k (a ∷ m.to) in
    moved_to _ (behind (along c.swap (behind (along m.swap n.swap))))
    (dl.Specs.arrays i c.whole.spelled j m.whole.spelled n.whole.spelled)

-- the options behind these, which stay the same
pub record SomeOptions (a c : Options) (ts rest : List Lexeme) : Type 0 where
  pub spelled : dl.OptionList a c ts rest

-- options
pub move_options : {a c : Options} {ts rest : List Lexeme} → dl.OptionList a c ts rest → (more : List Lexeme)
    → Moved (SomeOptions a c) ts rest more more
move_options (dl.OptionList.one i e f) more = record
    { to = _; swap = behind same; whole = record { spelled = dl.OptionList.one i e f } }
move_options (dl.OptionList.more i e f k l) more = let m = move_options l more in record {
  to = _;
  swap = behind (behind m.swap);
  whole = record { spelled = dl.OptionList.more i e f k m.whole.spelled };
}

-- a heading, of the same segment
pub record SomeHeading (split : Bool) (segment : ℕ) (ts rest : List Lexeme) : Type 0 where
  pub tree : decl.Heading
  pub alike : tree.segment ≡ segment
  pub spelled : dl.Heading split tree ts rest

-- a heading at the end of a swap
heading_to : {split : Bool} {h : decl.Heading} {segment : ℕ} {ts rest next to more : List Lexeme} → h.segment ≡ segment
    → Swap rest next ts to → dl.Heading split h to more → Moved (SomeHeading split segment) ts rest next more
heading_to e w p = record { to = _; swap = w; whole = record { tree = _; alike = e; spelled = p } }

-- a heading
pub move_heading : {split : Bool} {h : decl.Heading} {ts rest : List Lexeme} → dl.Heading split h ts rest
    → (more : List Lexeme) → Moved (SomeHeading split h.segment) ts rest more more
move_heading (dl.Heading.heading {p = p} {t = t} {k = k} r i j n v ss z) more = let e = move_specs ss (k ∷ more) in
    let d = move_values v e.to in let c = move_parameters n d.to in let b = move_result r (p ∷ t ∷ c.to) in
    heading_to refl (along b.swap (behind (behind (along c.swap (along d.swap (along e.swap (behind same)))))))
    (dl.Heading.heading b.whole.spelled i j c.whole.spelled d.whole.spelled e.whole.spelled z)

-- the heading of a subroutine, in another segment
pub move_subroutine : {segment : ℕ} {h : decl.Heading} {ts rest : List Lexeme} (new : ℕ)
    → dl.SubroutineHeading segment h ts rest
    → (more : List Lexeme) → Moved (Some_of (dl.SubroutineHeading new)) ts rest more more
move_subroutine new (dl.SubroutineHeading.heading {p = p} {t = t} {k = k} r i j n v ss z) more =
    let e = move_specs ss (k ∷ more) in
    let d = move_values v e.to in let c = move_parameters n d.to in let b = move_result r (p ∷ t ∷ c.to) in
    moved_to _ (along b.swap (behind (behind (along c.swap (along d.swap (along e.swap (behind same)))))))
    (dl.SubroutineHeading.heading b.whole.spelled i j c.whole.spelled d.whole.spelled e.whole.spelled z)

-- A statement that is a body begins with no BEGIN, and has a token.

-- a reference begins with no BEGIN,
reference_first : {r : tree.Tree} {ts rest : List Lexeme} → st.Reference r ts rest → begins_block ts ≡ false
reference_first (st.Reference.name i) = ap is_begin i
reference_first (st.Reference.element i _ _ _) = ap is_begin i

-- nor does a target,
target_first : {x : stat.Target} {ts rest : List Lexeme} → st.Target x ts rest → begins_block ts ≡ false
target_first (st.Target.plain r) = reference_first r
target_first (st.Target.field r _ _ _ _ _ _) = reference_first r
target_first (st.Target.address i _) = ap is_begin i

-- nor an effect,
effect_first : {x : stat.Effect} {ts rest : List Lexeme} → st.Effect x ts rest → begins_block ts ≡ false
effect_first (st.Effect.move i _ _ _) = ap is_begin i
effect_first (st.Effect.scan_while i _ _ _) = ap is_begin i
effect_first (st.Effect.scan_until i _ _ _) = ap is_begin i

-- nor what can be a body
body_first : {x : stat.Statement} {ts rest : List Lexeme} → st.Statement x ts rest → can_be_body x ≡ true
    → begins_block ts ≡ false
body_first st.Statement.empty e = cc
body_first (st.Statement.labelled i _ _) e = ap is_begin i
body_first (st.Statement.block i _ _) e = cc
body_first (st.Statement.if_then i _ _ _) e = ap is_begin i
body_first (st.Statement.if_else i _ _ _ _ _ _) e = ap is_begin i
body_first (st.Statement.while_do i _ _ _) e = ap is_begin i
body_first (st.Statement.do_until i _ _ _) e = ap is_begin i
body_first (st.Statement.for_do i _ _ _ _ _ _ _ _) e = ap is_begin i
body_first (st.Statement.case_of i _ _ _ _ _) e = ap is_begin i
body_first (st.Statement.go i _) e = ap is_begin i
body_first (st.Statement.go_to i _ _) e = ap is_begin i
body_first (st.Statement.goto i _) e = ap is_begin i
body_first (st.Statement.return i) e = ap is_begin i
body_first (st.Statement.assign x _ _) e = target_first x
body_first (st.Statement.assign_effect x _ _) e = target_first x
body_first (st.Statement.effect x) e = effect_first x
body_first (st.Statement.call i) e = ap is_begin i
body_first (st.Statement.call_with i _ _ _) e = ap is_begin i

-- what can be a body has a token
longer_body : {x : stat.Statement} {ts rest : List Lexeme} → st.Statement x ts rest → can_be_body x ≡ true
    → length rest < length ts
longer_body st.Statement.empty e = cc
longer_body (st.Statement.labelled _ _ x) e = let a = tk.no_longer x in omega arith
longer_body (st.Statement.block _ _ _) e = cc
longer_body (st.Statement.if_then _ q _ x) e = let a = tk.shorter_test q in let b = tk.no_longer x in omega arith
longer_body (st.Statement.if_else _ q _ x _ _ y) e = let a = tk.shorter_test q in let b = tk.no_longer x in
    let c = tk.no_longer y in omega arith
longer_body (st.Statement.while_do _ q _ x) e = let a = tk.shorter_condition q in let b = tk.no_longer x in omega arith
longer_body (st.Statement.do_until _ x _ q) e = let a = tk.no_longer x in let b = tk.shorter_condition q in omega arith
longer_body (st.Statement.for_do _ _ _ q p _ r _ x) e = let a = tk.shorter_expression q in let b = tk.no_longer_step p in
    let c = tk.shorter_expression r in let d = tk.no_longer x in omega arith
longer_body (st.Statement.case_of _ q _ _ xs _) e = let a = tk.shorter_expression q in let b = tk.no_longer_list xs in omega arith
longer_body (st.Statement.go _ _) e = omega arith
longer_body (st.Statement.go_to _ _ _) e = omega arith
longer_body (st.Statement.goto _ _) e = omega arith
longer_body (st.Statement.return _) e = omega arith
longer_body (st.Statement.assign x _ q) e = let a = tk.shorter_target x in let b = tk.shorter_expression q in omega arith
longer_body (st.Statement.assign_effect x _ q) e = let a = tk.shorter_target x in let b = tk.shorter_effect q in omega arith
longer_body (st.Statement.effect x) e = tk.shorter_effect x
longer_body (st.Statement.call _) e = omega arith
longer_body (st.Statement.call_with _ _ x _) e = let a = pt.shorter_arguments x in omega arith

-- true is not false
true_false : true ≡ false → ⊥
true_false e = cc

-- and such a statement can be one
pub is_body : {x : stat.Statement} {ts rest : List Lexeme} → st.Statement x ts rest → begins_block ts ≡ false
    → length rest < length ts → can_be_body x ≡ true
is_body st.Statement.empty e l = absurd (omega arith)
is_body (st.Statement.labelled i _ _) e l = refl
is_body (st.Statement.block i _ _) e l = absurd (true_false (sym (ap is_begin i) ∙ e))
is_body (st.Statement.if_then i _ _ _) e l = refl
is_body (st.Statement.if_else i _ _ _ _ _ _) e l = refl
is_body (st.Statement.while_do i _ _ _) e l = refl
is_body (st.Statement.do_until i _ _ _) e l = refl
is_body (st.Statement.for_do i _ _ _ _ _ _ _ _) e l = refl
is_body (st.Statement.case_of i _ _ _ _ _) e l = refl
is_body (st.Statement.go i _) e l = refl
is_body (st.Statement.go_to i _ _) e l = refl
is_body (st.Statement.goto i _) e l = refl
is_body (st.Statement.return i) e l = refl
is_body (st.Statement.assign x _ _) e l = refl
is_body (st.Statement.assign_effect x _ _) e l = refl
is_body (st.Statement.effect x) e l = refl
is_body (st.Statement.call i) e l = refl
is_body (st.Statement.call_with i _ _ _) e l = refl

-- the first token stays
pub still_no_block : {ts rest next to : List Lexeme} → Swap rest next ts to → length rest < length ts
    → begins_block ts ≡ false → begins_block to ≡ false
still_no_block same l e = absurd (omega arith)
still_no_block (behind a) l e = e

-- Declarations, of another segment, and bodies.

pub record SomeDeclaration (u : Bool) (segment : ℕ) (subroutine : Bool) (ts rest : List Lexeme) : Type 0 where
  pub tree : decl.Declaration
  pub alike : is_subroutine tree ≡ subroutine
  pub spelled : dl.Declaration u segment tree ts rest

pub record SomeDeclarations (u after : Bool) (segment : ℕ) (ts rest : List Lexeme) : Type 0 where
  pub trees : List decl.Declaration
  pub spelled : dl.Declarations u after segment trees ts rest

pub record SomeBody (segment : ℕ) (ts rest : List Lexeme) : Type 0 where
  pub items : List decl.Declaration
  pub statements : List stat.Statement
  pub spelled : dl.Body segment items statements ts rest

-- a declaration at the end of a swap
declaration_to : {u b : Bool} {segment : ℕ} {d : decl.Declaration} {ts rest next to more : List Lexeme} → is_subroutine d ≡ b
    → Swap rest next ts to → dl.Declaration u segment d to more → Moved (SomeDeclaration u segment b) ts rest next more
declaration_to e w p = record { to = _; swap = w; whole = record { tree = _; alike = e; spelled = p } }

-- the body of an equal segment
body_at : {a b : ℕ} {ds : List decl.Declaration} {xs : List stat.Statement} {ts rest : List Lexeme} → a ≡ b
    → dl.Body a ds xs ts rest → dl.Body b ds xs ts rest
body_at e p = rw (← e) p

-- behind an equal flag
pub list_at : {u : Bool} {a b : Bool} {segment : ℕ} {ds : List decl.Declaration} {ts rest : List Lexeme} → a ≡ b
    → dl.Declarations u a segment ds ts rest → dl.Declarations u b segment ds ts rest
list_at e p = rw (← e) p

-- the test of an equal flag
pub test_at : (a b after : Bool) → a ≡ b → (b || not after) ≡ true → (a || not after) ≡ true
test_at a b after e f = rw e f

-- a single statement as a body
move_single : {segment : ℕ} {x : stat.Statement} {ts rest : List Lexeme} → st.Statement x ts rest → can_be_body x ≡ true
    → (more : List Lexeme) → Moved (SomeBody segment) ts rest more more
move_single x e more = let a = move_statement x more in record {
  to = a.to;
  swap = a.swap;
  whole = record {
    items = [];
    statements = _;
    spelled = dl.Body.single a.whole.spelled (is_body a.whole.spelled
        (still_no_block a.swap (longer_body x e) (body_first x e))
        (let l = swap_length a.swap in let m = longer_body x e in omega arith));
  };
}

mutual
  -- a declaration
  pub move_declaration : {u : Bool} {segment : ℕ} {d : decl.Declaration} {ts rest : List Lexeme} (new : ℕ)
      → dl.Declaration u segment d ts rest → (more : List Lexeme)
      → Moved (SomeDeclaration u new (is_subroutine d)) ts rest more more
  move_declaration new (dl.Declaration.simple {t = t} o i l) more = let n = move_items l more in
      let m = move_own o (t ∷ n.to) in
      declaration_to refl (along m.swap (behind n.swap)) (dl.Declaration.simple m.whole.spelled i n.whole.spelled)
  move_declaration new (dl.Declaration.array {a = a} o k i l) more = let n = move_arrays l more in
      let c = move_kind k (a ∷ n.to) in let m = move_own o c.to in
      declaration_to refl (along m.swap (along c.swap (behind n.swap)))
      (dl.Declaration.array m.whole.spelled c.whole.spelled i n.whole.spelled)
  move_declaration new (dl.Declaration.pointers_of i j l) more = let n = move_names l more in
      declaration_to refl (behind (behind n.swap)) (dl.Declaration.pointers_of i j n.whole.spelled)
  move_declaration new (dl.Declaration.equate i l) more = let n = move_equals l more in
      declaration_to refl (behind n.swap) (dl.Declaration.equate i n.whole.spelled)
  move_declaration new (dl.Declaration.intrinsic i l) more = let n = move_names l more in
      declaration_to refl (behind n.swap) (dl.Declaration.intrinsic i n.whole.spelled)
  move_declaration new (dl.Declaration.label i l) more = let n = move_names l more in
      declaration_to refl (behind n.swap) (dl.Declaration.label i n.whole.spelled)
  move_declaration new (dl.Declaration.procedure h b) more = let n = move_body b more in
      let m = move_heading h n.to in
      declaration_to refl (along m.swap n.swap)
      (dl.Declaration.procedure m.whole.spelled (body_at (sym m.whole.alike) n.whole.spelled))
  move_declaration new (dl.Declaration.procedure_with {p = p} {k = k} h i o e f j b) more = let n = move_body b more in
      let c = move_options o (k ∷ n.to) in let m = move_heading h (p ∷ c.to) in
      declaration_to refl (along m.swap (behind (along c.swap (behind n.swap))))
      (dl.Declaration.procedure_with m.whole.spelled i c.whole.spelled e f j (body_at (sym m.whole.alike) n.whole.spelled))
  move_declaration new (dl.Declaration.forward {p = p} h i o e) more = let c = move_options o more in
      let m = move_heading h (p ∷ c.to) in
      declaration_to refl (along m.swap (behind c.swap)) (dl.Declaration.forward m.whole.spelled i c.whole.spelled e)
  move_declaration new (dl.Declaration.external {p = p} h i o e) more = let c = move_options o more in
      let m = move_heading h (p ∷ c.to) in
      declaration_to refl (along m.swap (behind c.swap)) (dl.Declaration.external m.whole.spelled i c.whole.spelled e)
  move_declaration new (dl.Declaration.subroutine h x) more = let n = move_statement x more in
      let m = move_subroutine new h n.to in
      declaration_to refl (along m.swap n.swap) (dl.Declaration.subroutine m.whole.spelled n.whole.spelled)

  -- declarations
  pub move_declarations : {u after : Bool} {segment : ℕ} {ds : List decl.Declaration} {ts rest : List Lexeme} (new : ℕ)
      → dl.Declarations u after segment ds ts rest → (more : List Lexeme)
      → Moved (SomeDeclarations u after new) ts rest more more
  move_declarations new dl.Declarations.none more = record
      { to = _; swap = same; whole = record { trees = _; spelled = dl.Declarations.none } }
  move_declarations new (dl.Declarations.more {k = k} d e i l) more = let n = move_declarations new l more in
      let m = move_declaration new d (k ∷ n.to) in record {
        to = _;
        swap = along m.swap (behind n.swap);
        whole = record {
          trees = _;
          spelled = dl.Declarations.more m.whole.spelled (test_at _ _ _ m.whole.alike e) i
              (list_at (sym m.whole.alike) n.whole.spelled);
        };
      }

  -- a body
  pub move_body : {segment : ℕ} {ds : List decl.Declaration} {xs : List stat.Statement} {ts rest : List Lexeme}
      → dl.Body segment ds xs ts rest → (more : List Lexeme) → Moved (SomeBody segment) ts rest more more
  move_body {segment = segment} (dl.Body.block {z = z} i ds xs y) more = let n = move_statements xs (z ∷ more) in
      let m = move_declarations segment ds n.to in record {
        to = _;
        swap = behind (along m.swap (along n.swap (behind same)));
        whole = record { items = _; statements = _; spelled = dl.Body.block i m.whole.spelled n.whole.spelled y };
      }
  move_body (dl.Body.single x e) more = move_single x e more
