-- Bodies that FORWARDs want, one declaration after the other from the last back.
use Rattle.std.proofs.Common.{ℕ, ◌≡◌, ◌<◌, ◌≤◌, ◌+◌, ◌-◌, suc, arith, Bool, true, false, List, [], ◌∷◌, map, length, get_or, drop, drop-cons, Option, Some, None, refl, sym, ap, ◌∙◌, is_some}
use Rattle.std.specs.Prelude.{if◌then◌else◌}
use Rattle.std.proofs.lemmas.List.{drop_all}
use Rattle.spl_tree.specs.declared.declarations.Decl.{Decl}
use Rattle.spl_tree.specs.DeclarationTrees as decl
use Rattle.spl_tree.specs.DeclarationTrees.{Declaration, Declarations, declarations}
use Rattle.spl_tree.specs.Spells.{declaration}
use Rattle.spl_sound.specs.spl_meaning.Names as n
use Rattle.spl_sound.specs.spl_meaning.Names.{Names, Sort, or_else, same_name, nothing_declared}
use Rattle.spl_sound.specs.spl_meaning.Faults.{Fault, unless, first_fault}
use Rattle.spl_sound.specs.spl_meaning.DeclarationRules.{gets_body}
use Rattle.spl_uses.specs.spl_found.OwnNames.{with_name}
use Rattle.spl_uses.specs.spl_found.FoundUnits.{found_forward, found_forwards}
use Rattle.spl_types.specs.Forwards.{bodied, bodies_of, forward_by}

body_more : (o : Option Sort) (b : Bool) → is_some (or_else o (if b then Some n.label else None)) ≡ (if b then true else is_some o)
body_more None true = refl
body_more None false = refl
body_more (Some s) true = refl
body_more (Some s) false = refl

-- a name with a body is among those
bodies_are : (ds : Declarations) (x : List ℕ) → is_some (bodies_of ds x) ≡ gets_body ds x
unfolding with_name
bodies_are decl.none x = refl
bodies_are (decl.and (decl.Declaration.data_items own c items) ds) x = bodies_are ds x
bodies_are (decl.and (decl.Declaration.equate es) ds) x = bodies_are ds x
bodies_are (decl.and (decl.Declaration.intrinsic xs) ds) x = bodies_are ds x
bodies_are (decl.and (decl.Declaration.label xs) ds) x = bodies_are ds x
bodies_are (decl.and (decl.Declaration.forward h) ds) x = bodies_are ds x
bodies_are (decl.and (decl.Declaration.external h) ds) x = bodies_are ds x
bodies_are (decl.and (decl.Declaration.procedure h items ss) ds) x =
    body_more (bodies_of ds x) (same_name x h.name) ∙ ap (λ (b : Bool). if same_name x h.name then true else b) (bodies_are ds x)
bodies_are (decl.and (decl.Declaration.subroutine h s) ds) x = bodies_are ds x

forward_is : (d : Declaration) (ds : Declarations) (f : Option Fault) → found_forward d ds f ≡ forward_by (bodies_of ds) d f
forward_is (decl.Declaration.data_items own c items) ds f = refl
forward_is (decl.Declaration.equate es) ds f = refl
forward_is (decl.Declaration.intrinsic xs) ds f = refl
forward_is (decl.Declaration.label xs) ds f = refl
forward_is (decl.Declaration.forward h) ds f = ap (λ (b : Bool). first_fault f (unless b 19 h.at)) (sym (bodies_are ds h.name))
forward_is (decl.Declaration.external h) ds f = refl
forward_is (decl.Declaration.procedure h items ss) ds f = refl
forward_is (decl.Declaration.subroutine h s) ds f = refl

-- the last so many declarations
last : List Decl → ℕ → Declarations
last xs i = declarations (map declaration (drop (length xs - i) xs))

pub bodies_last : List Decl → ℕ → Names
bodies_last xs i = bodies_of (last xs i)

pub found_last : List Decl → ℕ → Option Fault → Option Fault
found_last xs i f = found_forwards (last xs i) f

-- one more of them
more : (xs : List Decl) (i : ℕ) (x : Decl) → i < length xs → x ≡ get_or xs (length xs - 1 - i) x → last xs (i + 1) ≡ decl.and (declaration x) (last xs i)
unfolding last
more xs i x lt is =
    let inside : length xs - 1 - i < length xs = omega (arith, lt) in
    let first : length xs - (i + 1) ≡ length xs - 1 - i = omega (arith, lt) in
    let next : suc (length xs - 1 - i) ≡ length xs - i = omega (arith, lt) in
    ap (λ (k : ℕ). declarations (map declaration (drop k xs))) first
    ∙ ap (λ (ds : List Decl). declarations (map declaration ds)) (drop-cons xs (length xs - 1 - i) x inside
    ∙ ap (λ (y : Decl). y ∷ drop (suc (length xs - 1 - i)) xs) (sym is) ∙ ap (λ (k : ℕ). x ∷ drop k xs) next)

none_yet : (xs : List Decl) → drop (length xs - 0) xs ≡ []
none_yet xs = drop_all (length xs - 0) xs (omega arith)

pub bodies_first : (xs : List Decl) → bodies_last xs 0 ≡ nothing_declared
unfolding bodies_last last
bodies_first xs = ap (λ (ds : List Decl). bodies_of (declarations (map declaration ds))) (none_yet xs)

pub found_first : (xs : List Decl) (f : Option Fault) → found_last xs 0 f ≡ f
unfolding found_last last
found_first xs f = ap (λ (ds : List Decl). found_forwards (declarations (map declaration ds)) f) (none_yet xs)

pub bodies_more : (xs : List Decl) (i : ℕ) (x : Decl) → i < length xs → x ≡ get_or xs (length xs - 1 - i) x
    → bodies_last xs (i + 1) ≡ bodied (bodies_last xs i) (declaration x)
unfolding bodies_last
bodies_more xs i x lt is = ap bodies_of (more xs i x lt is)

pub found_more : (xs : List Decl) (i : ℕ) (x : Decl) (f : Option Fault) → i < length xs → x ≡ get_or xs (length xs - 1 - i) x
    → found_last xs (i + 1) f ≡ forward_by (bodies_last xs i) (declaration x) (found_last xs i f)
unfolding bodies_last found_last
found_more xs i x f lt is = ap (λ (ds : Declarations). found_forwards ds f) (more xs i x lt is) ∙ forward_is (declaration x) (last xs i) (found_forwards (last xs i) f)

pub found_end : (xs : List Decl) (i : ℕ) (f : Option Fault) → length xs ≤ i → found_last xs i f ≡ found_forwards (declarations (map declaration xs)) f
unfolding found_last last
found_end xs i f le = let none : length xs - i ≡ 0 = omega (arith, le) in ap (λ (k : ℕ). found_forwards (declarations (map declaration (drop k xs))) f) none

pub ruleset forward_steps = (bodies_first, found_first, bodies_more, found_more, found_end)
