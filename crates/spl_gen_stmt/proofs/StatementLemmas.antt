-- Statements with marks of their own: what was appended step by step is what the definition says.
use Rattle.std.proofs.Common.{Box, Vec, Global, ◌≡◌, ℕ, zero, suc, ◌+◌, ◌<◌, ◌≤◌, ◌++◌, ◌∷◌, [], List, Bool, false, length, map, drop, get_or, Option, Some, None, refl, subst, sym, ◌∙◌, ap, add-one, arith}
use Rattle.std.proofs.Math.Seq.{drop-cons}
use Rattle.std.proofs.lemmas.List.{append_assoc, append-nil, drop_all}
use Rattle.spl_tree.specs.declared.names_and_places.At.{At}
use Rattle.spl_tree.specs.declared.names_and_places.Name.{Name}
use Rattle.spl_tree.specs.declared.expressions.Expr.{Expr}
use Rattle.spl_tree.specs.declared.statements.Test as test
use Rattle.spl_tree.specs.declared.statements.Stmt.{Stmt}
use Rattle.spl_tree.specs.declared.statements.Stmt as stmt
use Rattle.spl_tree.specs.Views as view
use Rattle.spl_tree.specs.Views.{letters}
use Rattle.spl_tree.specs.DeclarationTrees.{Placed}
use Rattle.spl_tree.specs.Trees.{trees}
use Rattle.spl_tree.specs.StatementTrees as stat
use Rattle.spl_tree.specs.StatementTrees.{Statement, Statements, statements, Test}
use Rattle.spl_sorts.specs.spl_meaning.Bound.{statement_weight, statements_weight}
use Rattle.spl_sorts.specs.spl_meaning.StatementRules.{all_labels, all_labels_of}
use Rattle.spl_branch.specs.declared.buffer.Code.{Code}
use Rattle.spl_branch.specs.declared.pieces.Piece.TheVariants.{Begin, Mark}
use Rattle.spl_statement_code.specs.spl_code.Instructions.{LDI, DEL, BR}
use Rattle.spl_statement_code.specs.spl_code.Parts.{Part, piece, nothing, ◌⨟◌}
use Rattle.spl_statement_code.specs.spl_code.Code.{code, as_value, related}
use Rattle.spl_statement_code.specs.spl_code.Appends.{Appends}
use Rattle.spl_statement_code.proofs.spl_code_proofs.AppendLaws.{then_appends, none_appends}
use Rattle.spl_gen_expr.specs.Marks.{Within, Sets}
use Rattle.spl_statement_code.specs.Instructions.{TEST, LSUB, TBA, MTBA}
use Rattle.spl_statement_code.specs.Landings.{Context, IsMade, landed}
use Rattle.spl_statement_code.specs.Statements.{statement, listed, arms, idle, tested, counting, call_dropped, chosen, chosen_or, repeated_while, repeated_until, turns, chosen_among, arm}
use Rattle.spl_statement_code.specs.Labels.{AppendsSetting, CanBeSet, marks_of, mark_of, marks_inside, marks_within}
use Rattle.spl_stored.specs.Grown.{Grown}
use Rattle.spl_gen_stmt.proofs.ViewLemmas.{block_tree, case_tree, call_tree, labelled_tree, if_tree, either_tree, while_tree, until_tree, for_tree}
use Rattle.spl_gen_stmt.proofs.GrownLemmas.{grown_start, grown_more, grown_setting, grown_two, grown_none, grown_can, more_marks, first_set, first_set_here, second_set, closed_one, closed_two, can_first, setting_then, plain_then, setting_plain, plain, made_more, grown_still}

-- ---- by their marks

pub chosen_done : (test : ℕ → Part) (s : Part) (sets : List ℕ) (l : ℕ) {c c0 c1 c2 c3 : Code} → l ≡ length c.marks.items → Grown (false ∷ []) [] nothing c c0
    → Appends (test l) c0 c1 → AppendsSetting sets s c1 c2 → CanBeSet c.marks.items sets → Sets l c2 c3 → AppendsSetting sets (chosen test s) c c3
chosen_done test s sets l is new t b can m =
    closed_one (λ fail. test fail ⨟ s ⨟ piece (Mark fail)) is (first_set (grown_setting (grown_start new t) b can) m is)

pub chosen_or_done : (test : ℕ → Part) (s r : Part) (sets more : List ℕ) (l m : ℕ) {c c0 c1 c2 c3 c4 c5 c6 : Code} → l ≡ length c.marks.items
    → m ≡ suc (length c.marks.items) → Within false false nothing c c0 → Appends (test l) c0 c1 → AppendsSetting sets s c1 c2
    → Appends (piece (BR m)) c2 c3 → Sets l c3 c4 → AppendsSetting more r c4 c5 → CanBeSet c.marks.items (sets ++ more) → Sets m c5 c6
    → AppendsSetting (sets ++ more) (chosen_or test s r) c c6
chosen_or_done test s r sets more l m {c} is also new t a b x d can y =
    closed_two (λ fail end. test fail ⨟ s ⨟ piece (BR end) ⨟ piece (Mark fail) ⨟ r ⨟ piece (Mark end)) is also
    (second_set (grown_setting (first_set (grown_more (grown_setting (grown_start (grown_two new) t) a (can_first sets more c.marks.items can)) b) x is) d can) y also)

pub while_done : (test : ℕ → Part) (s : Part) (sets : List ℕ) (l m : ℕ) {c c0 c1 c2 c3 c4 c5 : Code} → l ≡ length c.marks.items
    → m ≡ suc (length c.marks.items) → Within false false nothing c c0 → Sets l c0 c1 → Appends (test m) c1 c2 → AppendsSetting sets s c2 c3
    → CanBeSet c.marks.items sets → Appends (piece (BR l)) c3 c4 → Sets m c4 c5 → AppendsSetting sets (repeated_while test s) c c5
while_done test s sets l m is also new x t a can b y =
    closed_two (λ next end. piece (Mark next) ⨟ test end ⨟ s ⨟ piece (BR next) ⨟ piece (Mark end)) is also
    (second_set (grown_more (grown_setting (grown_more (first_set_here (grown_two new) x is) t) a can) b) y also)

pub until_done : (test : ℕ → Part) (s : Part) (sets : List ℕ) (l : ℕ) {c c0 c1 c2 c3 c4 : Code} → l ≡ length c.marks.items → Grown (false ∷ []) [] nothing c c0
    → Appends idle c0 c1 → Sets l c1 c2 → AppendsSetting sets s c2 c3 → CanBeSet c.marks.items sets → Appends (test l) c3 c4
    → AppendsSetting sets (repeated_until s test) c c4
until_done test s sets l is new i x a can t =
    closed_one (λ again. idle ⨟ piece (Mark again) ⨟ s ⨟ test again) is (grown_more (grown_setting (first_set (grown_start new i) x is) a can) t)

pub turns_done : (s : Part) (sets : List ℕ) (l m : ℕ) {c c0 c1 c2 c3 c4 c5 c6 : Code} → l ≡ length c.marks.items → m ≡ suc (length c.marks.items)
    → Within false false nothing c c0 → Appends (piece (TBA l)) c0 c1 → Appends (piece (BR m)) c1 c2 → Sets l c2 c3 → AppendsSetting sets s c3 c4
    → CanBeSet c.marks.items sets → Appends (piece (MTBA l)) c4 c5 → Sets m c5 c6 → AppendsSetting sets (turns s) c c6
turns_done s sets l m is also new t b x a can u y =
    closed_two (λ again end. piece (TBA again) ⨟ piece (BR end) ⨟ piece (Mark again) ⨟ s ⨟ piece (MTBA again) ⨟ piece (Mark end)) is also
    (second_set (grown_more (grown_setting (first_set (grown_more (grown_start (grown_two new) t) b) x is) a can) u) y also)

pub arm_done : (s : Part) (end : ℕ) (sets : List ℕ) (l : ℕ) {c c0 c1 c2 c3 c4 c5 c6 c7 c8 : Code} → l ≡ length c.marks.items → Grown (false ∷ []) [] nothing c c0
    → Appends (piece TEST) c0 c1 → Appends (related 0 l) c1 c2 → Appends (piece DEL) c2 c3 → AppendsSetting sets s c3 c4 → CanBeSet c.marks.items sets
    → Appends (piece (BR end)) c4 c5 → Sets l c5 c6 → Appends (piece (LDI 1)) c6 c7 → Appends (piece LSUB) c7 c8 → AppendsSetting sets (arm s end) c c8
arm_done s end sets l is new t r d a can b x i u =
    closed_one (λ next. piece TEST ⨟ related 0 next ⨟ piece DEL ⨟ s ⨟ piece (BR end) ⨟ piece (Mark next) ⨟ piece (LDI 1) ⨟ piece LSUB) is
    (grown_more (grown_more (first_set (grown_more (grown_setting (grown_more (grown_more (grown_start new t) r) d) a can) b) x is) i) u)

pub among_done : (value : Part) (some : ℕ → Part) (sets : List ℕ) (l : ℕ) {c c0 c1 c2 c3 c4 : Code} → l ≡ length c.marks.items
    → Grown (false ∷ []) [] nothing c c0 → Appends value c0 c1 → AppendsSetting sets (some l) c1 c2 → CanBeSet c.marks.items sets → Appends (piece DEL) c2 c3
    → Sets l c3 c4 → AppendsSetting sets (chosen_among value some) c c4
among_done value some sets l is new v a can d x =
    closed_one (λ end. value ⨟ some end ⨟ piece DEL ⨟ piece (Mark end)) is (first_set (grown_more (grown_setting (grown_start new v) a can) d) x is)

-- ---- marks of labels

marks_of-append : (c : Context) (xs ys : List Placed) → marks_of c (xs ++ ys) ≡ marks_of c xs ++ marks_of c ys
marks_of-append c [] ys = refl
marks_of-append c (x ∷ xs) ys =
    ap (λ ms. mark_of (c.landings x.letters) ++ ms) (marks_of-append c xs ys) ∙ sym (append_assoc (mark_of (c.landings x.letters)) (marks_of c xs) (marks_of c ys))

pub marks_and : (c : Context) (s : Statement) (ss : Statements) → marks_within c (stat.Statements.and s ss) ≡ marks_inside c s ++ marks_within c ss
marks_and c s ss = marks_of-append c (all_labels s) (all_labels_of ss)

pub marks_if : (c : Context) (q : Test) (s : Statement) (at : At) → marks_inside c (stat.Statement.if_test q s stat.Statements.none at) ≡ marks_inside c s
marks_if c q s at = ap (marks_of c) (append-nil (all_labels s))

pub marks_either : (c : Context) (q : Test) (s t : Statement) (at : At)
    → marks_inside c (stat.Statement.if_test q s (stat.Statements.and t stat.Statements.none) at) ≡ marks_inside c s ++ marks_inside c t
marks_either c q s t at =
    ap (λ xs. marks_of c (all_labels s ++ xs)) (append-nil (all_labels t)) ∙ marks_of-append c (all_labels s) (all_labels t)

-- ---- statements in a loop

-- What is appended with the rest is all; its labels can be set; and no mark is lost.
pub record Due (ctx : Context) (part : Statements → Part) (all rest : Statements) (c0 c : Code) : Type 0 where
  pub marks : length c0.marks.items ≤ length c.marks.items
  pub free : CanBeSet c.marks.items (marks_within ctx rest)
  pub whole : (d : Code) → AppendsSetting (marks_within ctx rest) (part rest) c d → AppendsSetting (marks_within ctx all) (part all) c0 d

pub due_first : (ctx : Context) (part : Statements → Part) (all : Statements) (c : Code) → CanBeSet c.marks.items (marks_within ctx all) → Due ctx part all all c c
due_first ctx part all c can = record { marks = omega arith; free = can; whole = λ d a. a }

pub due_next : (ctx : Context) (part : Statements → Part) (one : Part) (all ss : Statements) (s : Statement) (c0 c d : Code)
    → part (stat.Statements.and s ss) ≡ one ⨟ part ss → Due ctx part all (stat.Statements.and s ss) c0 c → AppendsSetting (marks_inside ctx s) one c d
    → Due ctx part all ss c0 d
due_next ctx part one all ss s c0 c d is due a =
    let can : CanBeSet c.marks.items (marks_inside ctx s ++ marks_within ctx ss) =
    subst (λ ms. CanBeSet c.marks.items ms) (marks_and ctx s ss) due.free in
    let fewer : length c0.marks.items ≤ length c.marks.items = due.marks in
    let more : length c.marks.items ≤ length d.marks.items = more_marks (grown_none a) in
    record {
      marks = omega arith;
      free = grown_can (marks_within ctx ss) (grown_none a) can;
      whole = λ e b. due.whole e
          (subst (λ p. AppendsSetting (marks_within ctx (stat.Statements.and s ss)) p c e) (sym is)
          (subst (λ ms. AppendsSetting ms (one ⨟ part ss) c e) (sym (marks_and ctx s ss)) (setting_then a b can)));
    }

-- what the next statement needs
pub due_free : (ctx : Context) (part : Statements → Part) (all ss : Statements) (s : Statement) (c0 c : Code) → Due ctx part all (stat.Statements.and s ss) c0 c
    → CanBeSet c.marks.items (marks_inside ctx s)
due_free ctx part all ss s c0 c due =
    can_first (marks_inside ctx s) (marks_within ctx ss) c.marks.items (subst (λ ms. CanBeSet c.marks.items ms) (marks_and ctx s ss) due.free)

pub due_last : (ctx : Context) (part : Statements → Part) (all : Statements) (c0 c : Code) → part stat.Statements.none ≡ nothing → Due ctx part all stat.Statements.none c0 c
    → AppendsSetting (marks_within ctx all) (part all) c0 c
due_last ctx part all c0 c is due = due.whole c (subst (λ p. AppendsSetting [] p c c) (sym is) (plain (none_appends refl)))

-- the rest of a list
abbrev pub rest_of : List Stmt → ℕ → Statements
rest_of list i = statements (map view.statement (drop i list))

pub rest_more : (list : List Stmt) (i : ℕ) (s : Stmt) → i < length list → s ≡ get_or list i s
    → rest_of list i ≡ stat.Statements.and (view.statement s) (rest_of list (i + 1))
rest_more list i s lt is =
    ap (λ ss. statements (map view.statement ss)) (drop-cons list i s lt ∙ ap (λ y. y ∷ drop (suc i) list) (sym is))
    ∙ ap (λ j. stat.Statements.and (view.statement s) (rest_of list j)) (sym (add-one i))

pub rest_none : (list : List Stmt) (i : ℕ) → length list ≤ i → rest_of list i ≡ stat.Statements.none
rest_none list i le = ap (λ ss. statements (map view.statement ss)) (drop_all i list le)

-- what the next statement of a list needs, what is due behind it, and the end
pub loop_made : (ctx : Context) (part : Statements → Part) (all rest : Statements) (c0 c : Code) → Due ctx part all rest c0 c → IsMade ctx (length c0.marks.items)
    → IsMade ctx (length c.marks.items)
loop_made ctx part all rest c0 c due made = made_more made due.marks

pub loop_free : (ctx : Context) (part : Statements → Part) (list : List Stmt) (i : ℕ) (s : Stmt) (c0 c : Code) → i < length list → s ≡ get_or list i s
    → Due ctx part (statements (map view.statement list)) (rest_of list i) c0 c → CanBeSet c.marks.items (marks_inside ctx (view.statement s))
loop_free ctx part list i s c0 c lt is due =
    due_free ctx part (statements (map view.statement list)) (rest_of list (i + 1)) (view.statement s) c0 c
    (subst (λ r. Due ctx part (statements (map view.statement list)) r c0 c) (rest_more list i s lt is) due)

pub loop_next : (ctx : Context) (part : Statements → Part) (one : Part) (list : List Stmt) (i : ℕ) (s : Stmt) (c0 c d : Code)
    → part (stat.Statements.and (view.statement s) (rest_of list (i + 1))) ≡ one ⨟ part (rest_of list (i + 1)) → i < length list → s ≡ get_or list i s
    → Due ctx part (statements (map view.statement list)) (rest_of list i) c0 c → AppendsSetting (marks_inside ctx (view.statement s)) one c d
    → Due ctx part (statements (map view.statement list)) (rest_of list (i + 1)) c0 d
loop_next ctx part one list i s c0 c d more lt is due a =
    due_next ctx part one (statements (map view.statement list)) (rest_of list (i + 1)) (view.statement s) c0 c d more
    (subst (λ r. Due ctx part (statements (map view.statement list)) r c0 c) (rest_more list i s lt is) due) a

pub loop_last : (ctx : Context) (part : Statements → Part) (list : List Stmt) (i : ℕ) (c0 c : Code) → length list ≤ i → part stat.Statements.none ≡ nothing
    → Due ctx part (statements (map view.statement list)) (rest_of list i) c0 c
    → AppendsSetting (marks_within ctx (statements (map view.statement list))) (part (statements (map view.statement list))) c0 c
loop_last ctx part list i c0 c le none' due =
    due_last ctx part (statements (map view.statement list)) c0 c none'
    (subst (λ r. Due ctx part (statements (map view.statement list)) r c0 c) (rest_none list i le) due)

-- ---- behind a start

pub begun_made : {ctx : Context} {p : Part} {c d : Code} → IsMade ctx (length c.marks.items) → Appends p c d → IsMade ctx (length d.marks.items)
begun_made made a = grown_still made (grown_none (plain a))

pub begun_free : (ms : List ℕ) {p : Part} {c d : Code} → CanBeSet c.marks.items ms → Appends p c d → CanBeSet d.marks.items ms
begun_free ms can a = grown_can ms (grown_none (plain a)) can

-- ---- a statement is what its tree says

pub as_tree : (c : Context) (k : ℕ) (s t : Statement) {c0 d : Code} → s ≡ t → AppendsSetting (marks_inside c t) (statement c t k) c0 d
    → AppendsSetting (marks_inside c s) (statement c s k) c0 d
as_tree c k s t {c0} {d} is a = subst (λ x. AppendsSetting (marks_inside c x) (statement c x k) c0 d) (sym is) a

pub as_free : (c : Context) (marks : List Bool) (s t : Statement) → s ≡ t → CanBeSet marks (marks_inside c s) → CanBeSet marks (marks_inside c t)
as_free c marks s t is can = subst (λ x. CanBeSet marks (marks_inside c x)) is can

-- one statement for an equal one
same_inside : (c : Context) (k : ℕ) {v w : Stmt} {d e : Code} → v ≡ w → AppendsSetting (marks_inside c (view.statement v)) (statement c (view.statement v) k) d e
    → AppendsSetting (marks_inside c (view.statement w)) (statement c (view.statement w) k) d e
same_inside c k {v} {w} {d} {e} is a = subst (λ x. AppendsSetting (marks_inside c (view.statement x)) (statement c (view.statement x) k) d e) is a

pub labelled_done : (ctx : Context) (k : ℕ) (s v : Stmt) (name : Name) (at : At) (b : Box Stmt Global) {c d e f : Code} → s ≡ stmt.Labelled name at b → v ≡ b.value
    → AppendsSetting (mark_of (ctx.landings (letters name))) (landed (ctx.landings (letters name))) c d → Appends idle d e
    → AppendsSetting (marks_inside ctx (view.statement v)) (statement ctx (view.statement v) k) e f → CanBeSet c.marks.items (marks_inside ctx (view.statement s))
    → AppendsSetting (marks_inside ctx (view.statement s)) (statement ctx (view.statement s) k) c f
labelled_done ctx k s v name at b is box l i a can =
    let tree : view.statement s ≡ stat.Statement.labelled (letters name) at (view.statement b.value) = ap view.statement is ∙ labelled_tree name at b in
    as_tree ctx k _ _ tree (setting_then (setting_plain l i) (same_inside ctx k box a) (as_free ctx _ _ _ tree can))

-- a start, and what follows it
pub begun : (ctx : Context) (k : ℕ) (s t : Statement) (p q : Part) {sets : List ℕ} {c d e : Code} → s ≡ t → statement ctx t k ≡ p ⨟ q → marks_inside ctx t ≡ sets
    → Appends p c d → AppendsSetting sets q d e → CanBeSet c.marks.items (marks_inside ctx s) → AppendsSetting (marks_inside ctx s) (statement ctx s k) c e
begun ctx k s t p q {sets} {c} {d} {e} tree whole marks a b can =
    as_tree ctx k s t tree
    (subst (λ x. AppendsSetting (marks_inside ctx t) x c e) (sym whole)
    (subst (λ ms. AppendsSetting ms (p ⨟ q) c e) (sym marks)
    (plain_then a b (subst (λ ms. CanBeSet c.marks.items ms) marks (as_free ctx c.marks.items s t tree can)))))

-- the same without labels inside
pub begun_plain : (ctx : Context) (k : ℕ) (s t : Statement) (p q : Part) {c d e : Code} → s ≡ t → statement ctx t k ≡ p ⨟ q → marks_inside ctx t ≡ []
    → Appends p c d → Appends q d e → CanBeSet c.marks.items (marks_inside ctx s) → AppendsSetting (marks_inside ctx s) (statement ctx s k) c e
begun_plain ctx k s t p q tree whole marks a b can = begun ctx k s t p q tree whole marks a (plain b) can

pub if_done : (ctx : Context) (k : ℕ) (s v : Stmt) (q : test.Test) (b : Box Stmt Global) (at : At) {c d e : Code} → s ≡ stmt.If q b None at → v ≡ b.value
    → Appends (piece (Begin at)) c d
    → AppendsSetting (marks_inside ctx (view.statement v)) (chosen (λ fail. tested ctx.scope (view.test_tree q) fail k) (statement ctx (view.statement v) k)) d e
    → CanBeSet c.marks.items (marks_inside ctx (view.statement s)) → AppendsSetting (marks_inside ctx (view.statement s)) (statement ctx (view.statement s) k) c e
if_done ctx k s v q b at {c} {d} {e} is box a r can =
    begun ctx k _ (stat.Statement.if_test (view.test_tree q) (view.statement b.value) stat.Statements.none at) (piece (Begin at)) _
    (ap view.statement is ∙ if_tree q b at) refl (marks_if ctx (view.test_tree q) (view.statement b.value) at) a
    (subst (λ x. AppendsSetting (marks_inside ctx (view.statement x)) (chosen (λ fail. tested ctx.scope (view.test_tree q) fail k) (statement ctx (view.statement x) k)) d e) box r)
    can

pub either_done : (ctx : Context) (k : ℕ) (s v w : Stmt) (q : test.Test) (b o : Box Stmt Global) (at : At) {c d e : Code} → s ≡ stmt.If q b (Some o) at → v ≡ b.value
    → w ≡ o.value → Appends (piece (Begin at)) c d
    → AppendsSetting (marks_inside ctx (view.statement v) ++ marks_inside ctx (view.statement w))
    (chosen_or (λ fail. tested ctx.scope (view.test_tree q) fail k) (statement ctx (view.statement v) k) (statement ctx (view.statement w) k)) d e
    → CanBeSet c.marks.items (marks_inside ctx (view.statement s)) → AppendsSetting (marks_inside ctx (view.statement s)) (statement ctx (view.statement s) k) c e
either_done ctx k s v w q b o at {c} {d} {e} is box also a r can =
    begun ctx k _ (stat.Statement.if_test (view.test_tree q) (view.statement b.value) (stat.Statements.and (view.statement o.value) stat.Statements.none) at)
    (piece (Begin at)) _ (ap view.statement is ∙ either_tree q b o at) refl
    (marks_either ctx (view.test_tree q) (view.statement b.value) (view.statement o.value) at) a
    (subst (λ x. AppendsSetting (marks_inside ctx (view.statement b.value) ++ marks_inside ctx (view.statement x))
    (chosen_or (λ fail. tested ctx.scope (view.test_tree q) fail k) (statement ctx (view.statement b.value) k) (statement ctx (view.statement x) k)) d e) also
    (subst (λ x. AppendsSetting (marks_inside ctx (view.statement x) ++ marks_inside ctx (view.statement w))
    (chosen_or (λ fail. tested ctx.scope (view.test_tree q) fail k) (statement ctx (view.statement x) k) (statement ctx (view.statement w) k)) d e) box r))
    can

-- what an IF with ELSE needs
pub either_free : (ctx : Context) (marks : List Bool) (s v w : Stmt) (q : test.Test) (b o : Box Stmt Global) (at : At) → s ≡ stmt.If q b (Some o) at → v ≡ b.value
    → w ≡ o.value → CanBeSet marks (marks_inside ctx (view.statement s)) → CanBeSet marks (marks_inside ctx (view.statement v) ++ marks_inside ctx (view.statement w))
either_free ctx marks s v w q b o at is box also can =
    subst (λ x. CanBeSet marks (marks_inside ctx (view.statement x) ++ marks_inside ctx (view.statement w))) (sym box)
    (subst (λ x. CanBeSet marks (marks_inside ctx (view.statement b.value) ++ marks_inside ctx (view.statement x))) (sym also)
    (subst (λ ms. CanBeSet marks ms) (marks_either ctx (view.test_tree q) (view.statement b.value) (view.statement o.value) at)
    (as_free ctx marks _ _ (ap view.statement is ∙ either_tree q b o at) can)))

pub while_free : (ctx : Context) (marks : List Bool) (s v : Stmt) (e : Expr) (b : Box Stmt Global) (at : At) → s ≡ stmt.While e b at → v ≡ b.value
    → CanBeSet marks (marks_inside ctx (view.statement s)) → CanBeSet marks (marks_inside ctx (view.statement v))
while_free ctx marks s v e b at is box can =
    subst (λ x. CanBeSet marks (marks_inside ctx (view.statement x))) (sym box) (as_free ctx marks _ _ (ap view.statement is ∙ while_tree e b at) can)

pub for_free : (ctx : Context) (marks : List Bool) (s v : Stmt) (name : Name) (first : Expr) (step : Option Expr) (last : Expr) (b : Box Stmt Global) (at : At)
    → s ≡ stmt.For name first step last b at → v ≡ b.value → CanBeSet marks (marks_inside ctx (view.statement s)) → CanBeSet marks (marks_inside ctx (view.statement v))
for_free ctx marks s v name first step last b at is box can =
    subst (λ x. CanBeSet marks (marks_inside ctx (view.statement x))) (sym box) (as_free ctx marks _ _ (ap view.statement is ∙ for_tree name first step last b at) can)

pub for_done : (ctx : Context) (k m : ℕ) (s v : Stmt) (name : Name) (first : Expr) (step : Option Expr) (last : Expr) (b : Box Stmt Global) (at : At) {c d e f : Code}
    → s ≡ stmt.For name first step last b at → v ≡ b.value → m ≡ k + 3 → Appends (piece (Begin at)) c d
    → Appends (counting ctx.scope (letters name) (view.expression first) (trees (view.optional step)) (view.expression last) k) d e
    → AppendsSetting (marks_inside ctx (view.statement v)) (turns (statement ctx (view.statement v) m)) e f
    → CanBeSet c.marks.items (marks_inside ctx (view.statement s)) → AppendsSetting (marks_inside ctx (view.statement s)) (statement ctx (view.statement s) k) c f
for_done ctx k m s v name first step last b at {c} {d} {e} {f} is box more a h r can =
    begun ctx k _ (stat.Statement.for_values (letters name) (view.expression first) (trees (view.optional step)) (view.expression last) (view.statement b.value) at)
    (piece (Begin at) ⨟ counting ctx.scope (letters name) (view.expression first) (trees (view.optional step)) (view.expression last) k) _
    (ap view.statement is ∙ for_tree name first step last b at) refl refl (then_appends a h)
    (subst (λ x. AppendsSetting (marks_inside ctx (view.statement x)) (turns (statement ctx (view.statement x) (k + 3))) e f) box
    (subst (λ n. AppendsSetting (marks_inside ctx (view.statement v)) (turns (statement ctx (view.statement v) n)) e f) more r))
    can

-- one list for an equal one
same_list : (ctx : Context) (part : Statements → Part) {xs ys : List Stmt} {c d : Code} → xs ≡ ys
    → AppendsSetting (marks_within ctx (statements (map view.statement xs))) (part (statements (map view.statement xs))) c d
    → AppendsSetting (marks_within ctx (statements (map view.statement ys))) (part (statements (map view.statement ys))) c d
same_list ctx part {xs} {ys} {c} {d} is a =
    subst (λ l. AppendsSetting (marks_within ctx (statements (map view.statement l))) (part (statements (map view.statement l))) c d) is a

pub block_done : (ctx : Context) (k : ℕ) (s : Stmt) (list : Vec Stmt Global) (xs : List Stmt) {c d e : Code} → s ≡ stmt.Block list → xs ≡ list.items
    → Appends idle c d → AppendsSetting (marks_within ctx (statements (map view.statement xs))) (listed ctx (statements (map view.statement xs)) k) d e
    → CanBeSet c.marks.items (marks_inside ctx (view.statement s)) → AppendsSetting (marks_inside ctx (view.statement s)) (statement ctx (view.statement s) k) c e
block_done ctx k s list xs is held a r can =
    begun ctx k _ (stat.Statement.block (statements (map view.statement list.items))) idle _ (ap view.statement is ∙ block_tree list) refl refl a
    (same_list ctx (λ ss. listed ctx ss k) held r) can

pub case_done : (ctx : Context) (k : ℕ) (s : Stmt) (e : Expr) (list : Vec Stmt Global) (at : At) (xs : List Stmt) {c d f : Code} → s ≡ stmt.Case e list at
    → xs ≡ list.items → Appends (piece (Begin at)) c d
    → AppendsSetting (marks_within ctx (statements (map view.statement xs)))
    (chosen_among (code ctx.scope (view.expression e) as_value k) (λ end. arms ctx (statements (map view.statement xs)) k end)) d f
    → CanBeSet c.marks.items (marks_inside ctx (view.statement s)) → AppendsSetting (marks_inside ctx (view.statement s)) (statement ctx (view.statement s) k) c f
case_done ctx k s e list at xs is held a r can =
    begun ctx k _ (stat.Statement.case_of (view.expression e) (statements (map view.statement list.items)) at) (piece (Begin at)) _
    (ap view.statement is ∙ case_tree e list at) refl refl a
    (same_list ctx (λ ss. chosen_among (code ctx.scope (view.expression e) as_value k) (λ end. arms ctx ss k end)) held r) can

-- what a CASE needs
pub case_free : (ctx : Context) (marks : List Bool) (s : Stmt) (e : Expr) (list : Vec Stmt Global) (at : At) (xs : List Stmt) → s ≡ stmt.Case e list at
    → xs ≡ list.items → CanBeSet marks (marks_inside ctx (view.statement s)) → CanBeSet marks (marks_within ctx (statements (map view.statement xs)))
case_free ctx marks s e list at xs is held can =
    subst (λ l. CanBeSet marks (marks_within ctx (statements (map view.statement l)))) (sym held)
    (as_free ctx marks _ _ (ap view.statement is ∙ case_tree e list at) can)

pub call_done : (ctx : Context) (k : ℕ) (s : Stmt) (name : Name) (args : Vec Expr Global) (at : At) (es : List Expr) {c d e : Code} → s ≡ stmt.Call name args at
    → es ≡ args.items → Appends (piece (Begin at)) c d
    → ((at' : At) → Appends (call_dropped ctx.scope (letters name) (trees (map view.expression es)) at' k) d e)
    → CanBeSet c.marks.items (marks_inside ctx (view.statement s)) → AppendsSetting (marks_inside ctx (view.statement s)) (statement ctx (view.statement s) k) c e
call_done ctx k s name args at es {c} {d} {e} is held a r can =
    begun_plain ctx k _ (stat.Statement.call (letters name) (trees (map view.expression args.items)) at) (piece (Begin at)) _
    (ap view.statement is ∙ call_tree name args at) refl refl a
    (subst (λ l. Appends (call_dropped ctx.scope (letters name) (trees (map view.expression l)) at k) d e) held (r at)) can

-- ---- what stands in a statement is lighter

lighter : (s v w : Stmt) (t : Statement) → view.statement s ≡ t → v ≡ w → statement_weight (view.statement w) + 24 ≤ statement_weight t
    → statement_weight (view.statement v) + 24 ≤ statement_weight (view.statement s)
lighter s v w t is same le =
    let a = ap (λ x. statement_weight x) is in
    let b = ap (λ x. statement_weight (view.statement x)) same in
    omega arith

pub labelled_lighter : (s v : Stmt) (name : Name) (at : At) (b : Box Stmt Global) → s ≡ stmt.Labelled name at b → v ≡ b.value
    → statement_weight (view.statement v) + 24 ≤ statement_weight (view.statement s)
labelled_lighter s v name at b is box = lighter s v b.value _ (ap view.statement is ∙ labelled_tree name at b) box (omega arith)

pub if_lighter : (s v : Stmt) (q : test.Test) (b : Box Stmt Global) (n : Option (Box Stmt Global)) (at : At) → s ≡ stmt.If q b n at → n ≡ None → v ≡ b.value
    → statement_weight (view.statement v) + 24 ≤ statement_weight (view.statement s)
if_lighter s v q b n at is none' box =
    lighter s v b.value _ (ap view.statement (is ∙ ap (λ x. stmt.If q b x at) none') ∙ if_tree q b at) box (omega arith)

pub either_lighter : (s v w : Stmt) (q : test.Test) (b o : Box Stmt Global) (n : Option (Box Stmt Global)) (at : At) → s ≡ stmt.If q b n at → n ≡ Some o → v ≡ b.value
    → w ≡ o.value → statement_weight (view.statement v) + statement_weight (view.statement w) + 24 ≤ statement_weight (view.statement s)
either_lighter s v w q b o n at is some box also =
    let a = ap (λ x. statement_weight x) (ap view.statement (is ∙ ap (λ x. stmt.If q b x at) some) ∙ either_tree q b o at) in
    let d = ap (λ x. statement_weight (view.statement x)) box in
    let e = ap (λ x. statement_weight (view.statement x)) also in
    omega arith

pub while_lighter : (s v : Stmt) (e : Expr) (b : Box Stmt Global) (at : At) → s ≡ stmt.While e b at → v ≡ b.value
    → statement_weight (view.statement v) + 24 ≤ statement_weight (view.statement s)
while_lighter s v e b at is box = lighter s v b.value _ (ap view.statement is ∙ while_tree e b at) box (omega arith)

pub until_lighter : (s v : Stmt) (b : Box Stmt Global) (e : Expr) (at : At) → s ≡ stmt.Until b e at → v ≡ b.value
    → statement_weight (view.statement v) + 24 ≤ statement_weight (view.statement s)
until_lighter s v b e at is box = lighter s v b.value _ (ap view.statement is ∙ until_tree b e at) box (omega arith)

pub for_lighter : (s v : Stmt) (name : Name) (first : Expr) (step : Option Expr) (last : Expr) (b : Box Stmt Global) (at : At)
    → s ≡ stmt.For name first step last b at → v ≡ b.value → statement_weight (view.statement v) + 24 ≤ statement_weight (view.statement s)
for_lighter s v name first step last b at is box = lighter s v b.value _ (ap view.statement is ∙ for_tree name first step last b at) box (omega arith)

pub block_lighter : (s : Stmt) (list : Vec Stmt Global) (xs : List Stmt) → s ≡ stmt.Block list → xs ≡ list.items
    → statements_weight (statements (map view.statement xs)) + 24 ≤ statement_weight (view.statement s)
block_lighter s list xs is held =
    let a = ap (λ x. statement_weight x) (ap view.statement is ∙ block_tree list) in
    let b = ap (λ l. statements_weight (statements (map view.statement l))) held in
    omega arith

pub case_lighter : (s : Stmt) (e : Expr) (list : Vec Stmt Global) (at : At) (xs : List Stmt) → s ≡ stmt.Case e list at → xs ≡ list.items
    → statements_weight (statements (map view.statement xs)) + 24 ≤ statement_weight (view.statement s)
case_lighter s e list at xs is held =
    let a = ap (λ x. statement_weight x) (ap view.statement is ∙ case_tree e list at) in
    let b = ap (λ l. statements_weight (statements (map view.statement l))) held in
    omega arith

pub member_lighter : (list : List Stmt) (i : ℕ) (s : Stmt) → i < length list → s ≡ get_or list i s
    → statement_weight (view.statement s) ≤ statements_weight (statements (map view.statement list))
member_lighter [] i s lt is = absurd (omega arith)
member_lighter (x ∷ list) zero s lt is = let a = ap (λ y. statement_weight (view.statement y)) is in omega arith
member_lighter (x ∷ list) (suc i) s lt is = let a = member_lighter list i s (omega arith) is in omega arith

-- ---- an IF by its part that there may be

pub if_done_by : (ctx : Context) (k : ℕ) (s v : Stmt) (q : test.Test) (b : Box Stmt Global) (n : Option (Box Stmt Global)) (at : At) {c d e : Code} → s ≡ stmt.If q b n at
    → n ≡ None → v ≡ b.value → Appends (piece (Begin at)) c d
    → AppendsSetting (marks_inside ctx (view.statement v)) (chosen (λ fail. tested ctx.scope (view.test_tree q) fail k) (statement ctx (view.statement v) k)) d e
    → CanBeSet c.marks.items (marks_inside ctx (view.statement s)) → AppendsSetting (marks_inside ctx (view.statement s)) (statement ctx (view.statement s) k) c e
if_done_by ctx k s v q b n at is none' box a r can = if_done ctx k s v q b at (is ∙ ap (λ x. stmt.If q b x at) none') box a r can

pub if_free : (ctx : Context) (marks : List Bool) (s v : Stmt) (q : test.Test) (b : Box Stmt Global) (n : Option (Box Stmt Global)) (at : At) → s ≡ stmt.If q b n at
    → n ≡ None → v ≡ b.value → CanBeSet marks (marks_inside ctx (view.statement s)) → CanBeSet marks (marks_inside ctx (view.statement v))
if_free ctx marks s v q b n at is none' box can =
    subst (λ x. CanBeSet marks (marks_inside ctx (view.statement x))) (sym box)
    (subst (λ ms. CanBeSet marks ms) (marks_if ctx (view.test_tree q) (view.statement b.value) at)
    (as_free ctx marks _ _ (ap view.statement (is ∙ ap (λ x. stmt.If q b x at) none') ∙ if_tree q b at) can))

pub until_free : (ctx : Context) (marks : List Bool) (s v : Stmt) (b : Box Stmt Global) (e : Expr) (at : At) → s ≡ stmt.Until b e at → v ≡ b.value
    → CanBeSet marks (marks_inside ctx (view.statement s)) → CanBeSet marks (marks_inside ctx (view.statement v))
until_free ctx marks s v b e at is box can =
    subst (λ x. CanBeSet marks (marks_inside ctx (view.statement x))) (sym box) (as_free ctx marks _ _ (ap view.statement is ∙ until_tree b e at) can)

pub block_free : (ctx : Context) (marks : List Bool) (s : Stmt) (list : Vec Stmt Global) (xs : List Stmt) → s ≡ stmt.Block list → xs ≡ list.items
    → CanBeSet marks (marks_inside ctx (view.statement s)) → CanBeSet marks (marks_within ctx (statements (map view.statement xs)))
block_free ctx marks s list xs is held can =
    subst (λ l. CanBeSet marks (marks_within ctx (statements (map view.statement l)))) (sym held) (as_free ctx marks _ _ (ap view.statement is ∙ block_tree list) can)

-- behind its labels a statement's own may be set
pub labelled_free : (ctx : Context) (s v : Stmt) (name : Name) (at : At) (b : Box Stmt Global) {c d e : Code} → s ≡ stmt.Labelled name at b → v ≡ b.value
    → AppendsSetting (mark_of (ctx.landings (letters name))) (landed (ctx.landings (letters name))) c d → Appends idle d e
    → CanBeSet c.marks.items (marks_inside ctx (view.statement s)) → CanBeSet e.marks.items (marks_inside ctx (view.statement v))
labelled_free ctx s v name at b {c} {d} {e} is box l i can =
    subst (λ x. CanBeSet e.marks.items (marks_inside ctx (view.statement x))) (sym box)
    (grown_can (marks_inside ctx (view.statement b.value)) (grown_none (setting_plain l i)) (as_free ctx c.marks.items _ _ (ap view.statement is ∙ labelled_tree name at b) can))

pub labelled_made : (ctx : Context) {sets : List ℕ} {p q : Part} {c d e : Code} → IsMade ctx (length c.marks.items) → AppendsSetting sets p c d → Appends q d e
    → IsMade ctx (length e.marks.items)
labelled_made ctx made l i = grown_still made (grown_none (setting_plain l i))
