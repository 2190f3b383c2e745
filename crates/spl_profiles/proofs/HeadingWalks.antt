-- Loops over the lists of a heading: what is found from one of their elements on.
use Rattle.std.proofs.Common.{◌≡◌, ◌<◌, ◌≤◌, ℕ, ◌+◌, not, List, [], ◌∷◌, ◌++◌, map, drop, length, get_or, Option, is_some, refl, ap, sym, ◌∙◌, append_assoc, append-nil, Bool}
use Rattle.std.specs.Prelude.{◌||◌}
use Rattle.std.proofs.lemmas.List.{map_push}
use Rattle.spl_tree.specs.declared.names_and_places.Name.{Name}
use Rattle.spl_tree.specs.declared.names_and_places.At.{At}
use Rattle.spl_tree.specs.declared.declarations.Spec.{Spec}
use Rattle.spl_tree.specs.Views.{letters}
use Rattle.spl_tree.specs.Spells.{placed, spec_tree}
use Rattle.spl_tree.specs.DeclarationTrees.{Placed}
use Rattle.spl_sorts.specs.spl_meaning.Names as n
use Rattle.spl_sorts.specs.spl_meaning.Pending.{by_value}
use Rattle.spl_sorts.specs.spl_meaning.Faults.{Fault, unless, first_fault}
use Rattle.spl_sorts.specs.spl_meaning.StatementRules.{repeated, is_listed}
use Rattle.spl_sorts.specs.spl_meaning.DeclarationRules.{all_listed}
use Rattle.spl_found.proofs.Order.{first_then}
use Rattle.spl_sorts.specs.declared.profiles.Formal.{Formal}
use Rattle.spl_sorts.specs.Profiles.{formal_of}
use Rattle.spl_profiles.specs.NameSets.{Test, no_name, and_name, and_names}
use Rattle.spl_profiles.specs.Listings.{Said}
use Rattle.spl_profiles.specs.Headings.{found_again, found_failing, formal_by, formals_by, found_split}
use Rattle.spl_profiles.proofs.NameWalks.{onward, onward_end, seen_step, seen_end, seen_lists}

-- ---- names that stand again

pub again_step : (rule : ℕ) (has : Test) (list : List (Name × At)) (i : ℕ) (x : Name × At) (f : Option Fault) → i < length list → x ≡ get_or list i x
    → found_again rule has (map placed (drop i list)) f
    ≡ found_again rule (and_name has (letters x.0)) (map placed (drop (i + 1) list)) (first_fault f (unless (not (has (letters x.0))) rule x.1))
again_step rule has list i x f lt is = onward placed (λ xs. found_again rule has xs f) list i x lt is

pub again_end : (rule : ℕ) (has : Test) (list : List (Name × At)) (i : ℕ) (f : Option Fault) → length list ≤ i
    → found_again rule has (map placed (drop i list)) f ≡ f
again_end rule has list i f le = onward_end placed (λ xs. found_again rule has xs f) list i le

pub ruleset again_steps = (again_step, again_end, seen_step, seen_end)

-- behind those of a list it is what the rule says
again_behind : (rule : ℕ) (before xs : List Placed) (f : Option Fault) → found_again rule (is_listed before) xs f ≡ first_fault f (repeated rule before xs)
again_behind rule before [] f = refl
again_behind rule before (x ∷ xs) f =
    again_behind rule (x ∷ before) xs (first_fault f (unless (not (is_listed before x.letters)) rule x.at)) ∙ sym (first_then f (unless (not (is_listed before x.letters)) rule x.at) (repeated rule (x ∷ before) xs))

pub again_is : (rule : ℕ) (xs : List Placed) (f : Option Fault) → found_again rule no_name xs f ≡ first_fault f (repeated rule [] xs)
again_is rule xs f = again_behind rule [] xs f

pub ruleset once = (again_is, seen_lists)

-- in two lists, one behind the other
again_both : (rule : ℕ) (has : Test) (xs ys : List Placed) (f : Option Fault)
    → found_again rule has (xs ++ ys) f ≡ found_again rule (and_names has xs) ys (found_again rule has xs f)
again_both rule has [] ys f = refl
again_both rule has (x ∷ xs) ys f = again_both rule (and_name has x.letters) xs ys (first_fault f (unless (not (has x.letters)) rule x.at))

pub again_spec : (rule : ℕ) (has : Test) (list : List Spec) (i : ℕ) (l : Spec) (f : Option Fault) → i < length list → l ≡ get_or list i l
    → found_again rule has (all_listed (map spec_tree (drop i list))) f
    ≡ found_again rule (and_names has (map placed l.names.items)) (all_listed (map spec_tree (drop (i + 1) list))) (found_again rule has (map placed l.names.items) f)
again_spec rule has list i l f lt is =
    onward spec_tree (λ ls. found_again rule has (all_listed ls) f) list i l lt is
    ∙ again_both rule has (map placed l.names.items) (all_listed (map spec_tree (drop (i + 1) list))) f

pub again_spec_end : (rule : ℕ) (has : Test) (list : List Spec) (i : ℕ) (f : Option Fault) → length list ≤ i
    → found_again rule has (all_listed (map spec_tree (drop i list))) f ≡ f
again_spec_end rule has list i f le = onward_end spec_tree (λ ls. found_again rule has (all_listed ls) f) list i le

pub ruleset again_specs = (again_spec, again_spec_end, again_is)

-- ---- names that fail a test

pub failing_step : (passes : Test) (list : List (Name × At)) (i : ℕ) (x : Name × At) (f : Option Fault) → i < length list → x ≡ get_or list i x
    → found_failing passes (map placed (drop i list)) f ≡ found_failing passes (map placed (drop (i + 1) list)) (first_fault f (unless (passes (letters x.0)) 18 x.1))
failing_step passes list i x f lt is = onward placed (λ xs. found_failing passes xs f) list i x lt is

pub failing_end : (passes : Test) (list : List (Name × At)) (i : ℕ) (f : Option Fault) → length list ≤ i
    → found_failing passes (map placed (drop i list)) f ≡ f
failing_end passes list i f le = onward_end placed (λ xs. found_failing passes xs f) list i le

pub ruleset failing_steps = (failing_step, failing_end)

failing_both : (passes : Test) (xs ys : List Placed) (f : Option Fault) → found_failing passes (xs ++ ys) f ≡ found_failing passes ys (found_failing passes xs f)
failing_both passes [] ys f = refl
failing_both passes (x ∷ xs) ys f = failing_both passes xs ys (first_fault f (unless (passes x.letters) 18 x.at))

pub failing_spec : (passes : Test) (list : List Spec) (i : ℕ) (l : Spec) (f : Option Fault) → i < length list → l ≡ get_or list i l
    → found_failing passes (all_listed (map spec_tree (drop i list))) f
    ≡ found_failing passes (all_listed (map spec_tree (drop (i + 1) list))) (found_failing passes (map placed l.names.items) f)
failing_spec passes list i l f lt is =
    onward spec_tree (λ ls. found_failing passes (all_listed ls) f) list i l lt is
    ∙ failing_both passes (map placed l.names.items) (all_listed (map spec_tree (drop (i + 1) list))) f

pub failing_spec_end : (passes : Test) (list : List Spec) (i : ℕ) (f : Option Fault) → length list ≤ i
    → found_failing passes (all_listed (map spec_tree (drop i list))) f ≡ f
failing_spec_end passes list i f le = onward_end spec_tree (λ ls. found_failing passes (all_listed ls) f) list i le

pub ruleset failing_specs = (failing_spec, failing_spec_end)

-- ---- parameters

pub split_step : (split : Bool) (list : List Formal) (i : ℕ) (p : Formal) (f : Option Fault) → i < length list → p ≡ get_or list i p
    → found_split split (map formal_of (drop i list)) f
    ≡ found_split split (map formal_of (drop (i + 1) list))
    (first_fault f (unless (not split || by_value (formal_of p) || not (is_some p.kind)) 27 p.at))
split_step split list i p f lt is = onward formal_of (λ ps. found_split split ps f) list i p lt is

pub split_end : (split : Bool) (list : List Formal) (i : ℕ) (f : Option Fault) → length list ≤ i
    → found_split split (map formal_of (drop i list)) f ≡ f
split_end split list i f le = onward_end formal_of (λ ps. found_split split ps f) list i le

pub ruleset split_steps = (split_step, split_end)

pub formal_step : (known : Said) (values : Test) (made : List Formal) (list : List (Name × At)) (i : ℕ) (x : Name × At) (p : Formal) → i < length list → x ≡ get_or list i x
    → formal_of p ≡ formal_by known values (letters x.0) x.1
    → map formal_of made ++ formals_by known values (map placed (drop i list))
    ≡ map formal_of (made ++ p ∷ []) ++ formals_by known values (map placed (drop (i + 1) list))
formal_step known values made list i x p lt is same =
    let rest = formals_by known values (map placed (drop (i + 1) list)) in
    onward placed (λ xs. map formal_of made ++ formals_by known values xs) list i x lt is
    ∙ ap (λ (q : n.Formal). map formal_of made ++ q ∷ rest) (sym same)
    ∙ sym (ap (λ (ps : List n.Formal). ps ++ rest) (map_push formal_of made p) ∙ append_assoc (map formal_of made) (formal_of p ∷ []) rest)

pub formal_end : (known : Said) (values : Test) (made : List Formal) (list : List (Name × At)) (i : ℕ) → length list ≤ i
    → map formal_of made ++ formals_by known values (map placed (drop i list)) ≡ map formal_of made
formal_end known values made list i le =
    onward_end placed (λ xs. map formal_of made ++ formals_by known values xs) list i le ∙ append-nil (map formal_of made)

pub ruleset formal_steps = (formal_step, formal_end)
