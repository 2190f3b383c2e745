-- What can stand first in headings, bodies, statements and declarations.
use Rattle.std.proofs.Common.{ℕ, ◌≡◌, ◌&&◌, ◌||◌, not, Bool, true, false, if◌then◌else◌, List, [], ◌∷◌, Option, refl}
use Rattle.spl_reading.specs.spl_tree.declared.names_and_places.At.{At}
use Rattle.spl_reading.specs.spl_tree.declared.expressions.Kind.{Kind}
use Rattle.spl_reading.specs.spl_tree.declared.symbols.Symbol.{Symbol}
use Rattle.spl_reading.specs.spl_tree.declared.symbols.Symbol.TheVariants as s
use Rattle.spl_reading.specs.spl_tree.declared.symbols.Reserved.TheVariants as w
use Rattle.spl_reading.specs.spl_tree.Symbols.{Lexeme, Is}
use Rattle.spl_reading.specs.spl_tree.Trees as tree
use Rattle.spl_reading.specs.spl_tree.DeclarationTrees as decl
use Rattle.spl_reading.specs.spl_tree.DeclarationTrees.{Placed}
use Rattle.spl_reading.specs.spl_tree.Declarations as dl
use Rattle.spl_reading.specs.spl_tree.Declarations.{Separated, one, more, Options, both, fit, option_of, no_options, can_be_body, is_subroutine, pointers}
use Rattle.spl_reading.specs.Readers.{Outcome, Got, Parser, by_symbol, same_symbol, symbol_number, reserved_number}
use Rattle.spl_reading.specs.ReadExpressions.{is}
use Rattle.spl_reading.specs.ReadDeclarations.{heading, BodyRead, declares}
use Rattle.spl_grammar.proofs.NearReaders.{Near, near_then, near_pure, near_take, near_symbol, near_head, near_if, near_expect}
use Rattle.spl_grammar.proofs.CompleteParts.{Ends, semicolon}
use Rattle.spl_grammar.proofs.CompleteHeadings.{goes_on, heading_tail_read, parameters_read}
use Rattle.spl_reading.specs.spl_tree.StatementTrees as stat
use Rattle.spl_reading.specs.spl_tree.Statements as st
use Rattle.spl_reading.specs.spl_tree.DeclarationTrees.{declarations, UnitTree}
use Rattle.spl_grammar.proofs.FirstTokens.{Begins, with_first, by_is}

-- the first token is this symbol
pub data FirstIs (k : Symbol) : List Lexeme → Type 0 where
  first_is : {t : Lexeme} {ts : List Lexeme} → Is k t → FirstIs k (t ∷ ts)

pub by_first : {A : Type 0} {k : Symbol} (f : Symbol → Parser A) {ts m : List Lexeme} {y : Outcome A} → FirstIs k ts
    → Near (f k) ts m y → Near (by_symbol f) ts m y
by_first f (first_is i) n = near_symbol f i n

pub items_first : {is : List decl.Item} {ts rest : List Lexeme} → dl.Items is ts rest → FirstIs s.Name ts
items_first (one (dl.Item.plain i)) = first_is i
items_first (one (dl.Item.valued i k v)) = first_is i
items_first (more (dl.Item.plain i) j l) = first_is i
items_first (more (dl.Item.valued i k v) j l) = first_is i

-- what a heading comes to
abbrev pub heading_of : Option Kind → Lexeme → List Placed → List Placed → List decl.Spec → ℕ → Bool → decl.Heading
heading_of r t ns vs ss segment = λ split. record
    { result = r; name = t.letters; names = ns; values = vs; specs = ss; split = split; at = t.at; segment = segment }

pub specs_no_open : {ss : List decl.Spec} {k : Lexeme} {ts rest : List Lexeme} → dl.Specs ss ts (k ∷ rest)
    → Is s.Semicolon k → Begins (is s.Open) false ts
unfolding same_symbol symbol_number
specs_no_open dl.Specs.none i = by_is _ _ _ _ _ i refl
specs_no_open (dl.Specs.words j u l x) i = by_is _ _ _ _ _ j refl
specs_no_open (dl.Specs.arrays j o u l x) i = by_is _ _ _ _ _ j refl

pub values_no_open : {vs : List Placed} {ss : List decl.Spec} {k : Lexeme} {ts mid rest : List Lexeme}
    → dl.Values vs ts mid → dl.Specs ss mid (k ∷ rest) → Is s.Semicolon k → Begins (is s.Open) false ts
unfolding same_symbol symbol_number
values_no_open dl.Values.absent x i = specs_no_open x i
values_no_open (dl.Values.given k v l) x i = by_is _ _ _ _ _ k refl

pub heading_read : {r : Option Kind} (segment : Lexeme → ℕ) {ns vs : List Placed} {ss : List decl.Spec} {p t k : Lexeme}
    {ts after_names after_values rest : List Lexeme} → Is s.Name t
    → dl.Parameters ns ts after_names → dl.Values vs after_names after_values → dl.Specs ss after_values (k ∷ rest)
    → Is s.Semicolon k → Begins goes_on false rest
    → Near (heading r segment) (p ∷ t ∷ ts) rest (Got (heading_of r t ns vs ss (segment p)) rest)
unfolding heading
heading_read segment i ns vs ss k b = near_then _ near_take
    (near_then _ (near_expect i) (near_then _ (parameters_read ns (values_no_open vs ss k))
    (near_then _ (heading_tail_read vs ss k b) (near_pure _ _))))

-- what can't begin the body of a procedure without BEGIN
abbrev pub no_start : Symbol → Bool
no_start k = goes_on k || is (s.Word w.Options) k

pub both_false : (a b : Bool) → (a || b) ≡ false → (a ≡ false) × (b ≡ false)
both_false false false e = (refl, refl)
both_false true b e = cc
both_false false true e = cc

pub reference_first : {test : Symbol → Bool} {r : tree.Tree} {ts rest : List Lexeme} → test s.Name ≡ false
    → st.Reference r ts rest → Begins test false ts
reference_first e (st.Reference.name i) = by_is _ _ _ _ _ i e
reference_first e (st.Reference.element i _ _ _) = by_is _ _ _ _ _ i e

pub target_first : {test : Symbol → Bool} {x : stat.Target} {ts rest : List Lexeme} → test s.Name ≡ false
    → test s.AtSign ≡ false → st.Target x ts rest → Begins test false ts
target_first a b (st.Target.plain r) = reference_first a r
target_first a b (st.Target.field r _ _ _ _ _ _) = reference_first a r
target_first a b (st.Target.address i _) = by_is _ _ _ _ _ i b

pub effect_first : {test : Symbol → Bool} {x : stat.Effect} {ts rest : List Lexeme} → test (s.Word w.Move) ≡ false
    → test (s.Word w.Scan) ≡ false → st.Effect x ts rest → Begins test false ts
effect_first a b (st.Effect.move i _ _ _) = by_is _ _ _ _ _ i a
effect_first a b (st.Effect.scan_while i _ _ _) = by_is _ _ _ _ _ i b
effect_first a b (st.Effect.scan_until i _ _ _) = by_is _ _ _ _ _ i b

-- the first token of a statement that can be a body
pub statement_first : {test : Symbol → Bool} {x : stat.Statement} {ts rest : List Lexeme} → test s.Name ≡ false
    → test s.AtSign ≡ false → test (s.Word w.If) ≡ false → test (s.Word w.While) ≡ false
    → test (s.Word w.Do) ≡ false → test (s.Word w.For) ≡ false → test (s.Word w.Case) ≡ false
    → test (s.Word w.Go) ≡ false → test (s.Word w.Goto) ≡ false → test (s.Word w.Return) ≡ false
    → test (s.Word w.Move) ≡ false → test (s.Word w.Scan) ≡ false → st.Statement x ts rest → can_be_body x ≡ true
    → Begins test false ts
statement_first a b c d e f g h j k l m st.Statement.empty v = cc
statement_first a b c d e f g h j k l m (st.Statement.block i x z) v = cc
statement_first a b c d e f g h j k l m (st.Statement.labelled i _ x) v = by_is _ _ _ _ _ i a
statement_first a b c d e f g h j k l m (st.Statement.if_then i _ _ x) v = by_is _ _ _ _ _ i c
statement_first a b c d e f g h j k l m (st.Statement.if_else i _ _ x _ _ y) v = by_is _ _ _ _ _ i c
statement_first a b c d e f g h j k l m (st.Statement.while_do i _ _ x) v = by_is _ _ _ _ _ i d
statement_first a b c d e f g h j k l m (st.Statement.do_until i x _ _) v = by_is _ _ _ _ _ i e
statement_first a b c d e f g h j k l m (st.Statement.for_do i _ _ _ _ _ _ _ x) v = by_is _ _ _ _ _ i f
statement_first a b c d e f g h j k l m (st.Statement.case_of i _ _ _ x _) v = by_is _ _ _ _ _ i g
statement_first a b c d e f g h j k l m (st.Statement.go i _) v = by_is _ _ _ _ _ i h
statement_first a b c d e f g h j k l m (st.Statement.go_to i _ _) v = by_is _ _ _ _ _ i h
statement_first a b c d e f g h j k l m (st.Statement.goto i _) v = by_is _ _ _ _ _ i j
statement_first a b c d e f g h j k l m (st.Statement.return i) v = by_is _ _ _ _ _ i k
statement_first a b c d e f g h j k l m (st.Statement.assign t _ x) v = target_first a b t
statement_first a b c d e f g h j k l m (st.Statement.assign_effect t _ x) v = target_first a b t
statement_first a b c d e f g h j k l m (st.Statement.effect x) v = effect_first l m x
statement_first a b c d e f g h j k l m (st.Statement.call i) v = by_is _ _ _ _ _ i a
statement_first a b c d e f g h j k l m (st.Statement.call_with i _ x _) v = by_is _ _ _ _ _ i a

pub body_first : {segment : ℕ} {ds : List decl.Declaration} {xs : List stat.Statement} {ts rest : List Lexeme}
    → dl.Body segment ds xs ts rest → Begins no_start false ts
unfolding same_symbol symbol_number reserved_number
body_first (dl.Body.block i ds xs z) = by_is _ _ _ _ _ i refl
body_first (dl.Body.single x c) = statement_first refl refl refl refl refl refl refl refl refl refl refl refl x c

pub single_no_begin : {x : stat.Statement} {ts rest : List Lexeme} → st.Statement x ts rest → can_be_body x ≡ true
    → Begins (is (s.Word w.Begin)) false ts
unfolding same_symbol symbol_number reserved_number
single_no_begin x c = statement_first refl refl refl refl refl refl refl refl refl refl refl refl x c

pub start_goes : {ts : List Lexeme} → Begins no_start false ts → Begins goes_on false ts
start_goes (with_first {t = t} b) = with_first (both_false (goes_on t.symbol) (is (s.Word w.Options) t.symbol) b).0

pub start_option : {ts : List Lexeme} → Begins no_start false ts → Begins (is (s.Word w.Options)) false ts
start_option (with_first {t = t} b) = with_first (both_false (goes_on t.symbol) (is (s.Word w.Options) t.symbol) b).1

-- statements up to an END begin with no declaration
pub statement_declares : {test : Symbol → Bool} {x : stat.Statement} {ts rest : List Lexeme} → test s.Name ≡ false
    → test s.AtSign ≡ false → test (s.Word w.If) ≡ false → test (s.Word w.While) ≡ false
    → test (s.Word w.Do) ≡ false → test (s.Word w.For) ≡ false → test (s.Word w.Case) ≡ false
    → test (s.Word w.Go) ≡ false → test (s.Word w.Goto) ≡ false → test (s.Word w.Return) ≡ false
    → test (s.Word w.Move) ≡ false → test (s.Word w.Scan) ≡ false → test (s.Word w.Begin) ≡ false
    → st.Statement x ts rest → Begins test false rest → Begins test false ts
statement_declares a b c d e f g h j k l m n st.Statement.empty v = v
statement_declares a b c d e f g h j k l m n (st.Statement.block i x z) v = by_is _ _ _ _ _ i n
statement_declares a b c d e f g h j k l m n (st.Statement.labelled i _ x) v = by_is _ _ _ _ _ i a
statement_declares a b c d e f g h j k l m n (st.Statement.if_then i _ _ x) v = by_is _ _ _ _ _ i c
statement_declares a b c d e f g h j k l m n (st.Statement.if_else i _ _ x _ _ y) v = by_is _ _ _ _ _ i c
statement_declares a b c d e f g h j k l m n (st.Statement.while_do i _ _ x) v = by_is _ _ _ _ _ i d
statement_declares a b c d e f g h j k l m n (st.Statement.do_until i x _ _) v = by_is _ _ _ _ _ i e
statement_declares a b c d e f g h j k l m n (st.Statement.for_do i _ _ _ _ _ _ _ x) v = by_is _ _ _ _ _ i f
statement_declares a b c d e f g h j k l m n (st.Statement.case_of i _ _ _ x _) v = by_is _ _ _ _ _ i g
statement_declares a b c d e f g h j k l m n (st.Statement.go i _) v = by_is _ _ _ _ _ i h
statement_declares a b c d e f g h j k l m n (st.Statement.go_to i _ _) v = by_is _ _ _ _ _ i h
statement_declares a b c d e f g h j k l m n (st.Statement.goto i _) v = by_is _ _ _ _ _ i j
statement_declares a b c d e f g h j k l m n (st.Statement.return i) v = by_is _ _ _ _ _ i k
statement_declares a b c d e f g h j k l m n (st.Statement.assign t _ x) v = target_first a b t
statement_declares a b c d e f g h j k l m n (st.Statement.assign_effect t _ x) v = target_first a b t
statement_declares a b c d e f g h j k l m n (st.Statement.effect x) v = effect_first l m x
statement_declares a b c d e f g h j k l m n (st.Statement.call i) v = by_is _ _ _ _ _ i a
statement_declares a b c d e f g h j k l m n (st.Statement.call_with i _ x _) v = by_is _ _ _ _ _ i a

pub list_first : {xs : List stat.Statement} {z : Lexeme} {ts rest : List Lexeme} (room : ℕ) (body_of : ℕ → Parser BodyRead)
    (u : Bool) → st.Statements xs ts (z ∷ rest) → Is (s.Word w.End) z
    → Begins (declares room body_of u) false ts
unfolding declares
list_first room body_of u (st.Statements.one x) z = statement_declares refl refl refl refl refl refl refl refl refl
    refl refl refl refl x (by_is _ _ _ _ _ z refl)
list_first room body_of u (st.Statements.more x k l) z = statement_declares refl refl refl refl refl refl refl refl
    refl refl refl refl refl x (by_is _ _ _ _ _ k refl)

-- behind no subroutine
pub not_after : (a : Bool) → (false || not a) ≡ true → a ≡ false
not_after false e = refl
not_after true e = cc

pub ends_of : {k : Lexeme} {ts : List Lexeme} → Is s.Semicolon k → Ends (k ∷ ts)
ends_of i = semicolon i

-- a body
abbrev pub body_pair : List decl.Declaration → List stat.Statement → BodyRead
body_pair ds xs = (ds, xs)

pub option_goes : {t : Lexeme} {ts : List Lexeme} → Is (s.Word w.Options) t → Begins goes_on false (t ∷ ts)
unfolding same_symbol symbol_number reserved_number
option_goes i = by_is _ _ _ _ _ i refl

-- FORWARD and EXTERNAL exclude each other
pub fit_list : {a c : Options} {ts rest : List Lexeme} → dl.OptionList a c ts rest → fit c ≡ true
fit_list (dl.OptionList.one i e f) = f
fit_list (dl.OptionList.more i e f k l) = fit_list l

pub fit_one : (f x : Bool) → not (f && x) ≡ true → x ≡ true → f ≡ false
fit_one false x e q = refl
fit_one true true e q = cc
fit_one true false e q = cc

pub no_forward : {a c : Options} {ts rest : List Lexeme} → dl.OptionList a c ts rest → c.external ≡ true → c.forward ≡ false
no_forward {c = c} l e = fit_one c.forward c.external (fit_list l) e

pub heading_first : {split : Bool} {h : decl.Heading} {test : Symbol → Bool} {ts rest : List Lexeme}
    → dl.Heading split h ts rest → ((c : Kind) → test (s.Type c) ≡ true) → test (s.Word w.Procedure) ≡ true
    → Begins test true ts
heading_first (dl.Heading.heading dl.Result.absent p i ns vs ss k) e f = by_is _ _ _ _ _ p f
heading_first (dl.Heading.heading (dl.Result.given r) p i ns vs ss k) e f = by_is _ _ _ _ _ r (e _)

pub choose_then : {A : Type 0} (test : Symbol → Bool) {p : Parser A} (q : Parser A) {ts m : List Lexeme} {y : Outcome A}
    → Begins test true ts → Near p ts m y
    → Near (by_symbol (λ k. if test k then p else q)) ts m y
choose_then test q (with_first b) n = near_head _ (near_if _ b n)

-- the state of the loop over declarations, and whether a subroutine came last
abbrev pub decl_state : Bool → List decl.Declaration → Bool × List decl.Declaration
decl_state after ds = (after, ds)

abbrev pub after_all : Bool → List decl.Declaration → Bool
after_all after [] = after
after_all after (d ∷ ds) = after_all (is_subroutine d) ds

abbrev pub unit_tree_of : List decl.Declaration → List stat.Statement → ℕ → At → UnitTree
unit_tree_of ds xs segment at = record { items = ds; statements = xs; segment = segment; at = at }
