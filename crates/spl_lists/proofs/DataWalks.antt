-- Loops over declarations of data: what is found, and what names stand for, from an item on.
use Rattle.std.proofs.Common.{◌≡◌, ◌<◌, ◌≤◌, ℕ, ◌+◌, Bool, List, map, drop, length, get_or, Option}
use Rattle.spl_tree.specs.declared.names_and_places.At.{At}
use Rattle.spl_tree.specs.declared.expressions.Kind.{Kind}
use Rattle.spl_tree.specs.declared.expressions.Const.{Const}
use Rattle.spl_tree.specs.declared.declarations.Item.{Item}
use Rattle.spl_tree.specs.Views as view
use Rattle.spl_tree.specs.Views.{letters}
use Rattle.spl_tree.specs.Spells.{item_tree, shape_tree}
use Rattle.spl_sorts.specs.spl_meaning.Names.{Names}
use Rattle.spl_sorts.specs.spl_meaning.Tables.{shaped}
use Rattle.spl_sorts.specs.spl_meaning.Faults.{Fault, first_fault}
use Rattle.spl_sorts.specs.spl_meaning.DeclarationRules.{Around, initial_faults}
use Rattle.spl_uses.specs.spl_found.OwnNames.{over, with_name, behind_items}
use Rattle.spl_uses.specs.spl_found.FoundDeclarations.{found_initials, found_item, found_items}
use Rattle.spl_profiles.proofs.NameWalks.{onward, onward_end}

pub initial_step : (names : Names) (k : Kind) (at : At) (list : List Const) (i : ℕ) (x : Const) (f : Option Fault) → i < length list → x ≡ get_or list i x
    → found_initials names k at (map view.constant (drop i list)) f
    ≡ found_initials names k at (map view.constant (drop (i + 1) list)) (first_fault f (initial_faults names k at (view.constant x)))
initial_step names k at list i x f lt is = onward view.constant (λ xs. found_initials names k at xs f) list i x lt is

pub initial_end : (names : Names) (k : Kind) (at : At) (list : List Const) (i : ℕ) (f : Option Fault) → length list ≤ i
    → found_initials names k at (map view.constant (drop i list)) f ≡ f
initial_end names k at list i f le = onward_end view.constant (λ xs. found_initials names k at xs f) list i le

pub ruleset initial_steps = (initial_step, initial_end)

pub item_step : (a : Around) (here : Names) (own : Bool) (k : Kind) (list : List Item) (i : ℕ) (x : Item) (f : Option Fault) → i < length list → x ≡ get_or list i x
    → found_items a here own k (map item_tree (drop i list)) f
    ≡ found_items a (with_name here (letters x.name) (shaped (over here a.names) own k (shape_tree x.shape))) own k (map item_tree (drop (i + 1) list))
    (found_item a here own k (item_tree x) f)
item_step a here own k list i x f lt is = onward item_tree (λ xs. found_items a here own k xs f) list i x lt is

pub item_end : (a : Around) (here : Names) (own : Bool) (k : Kind) (list : List Item) (i : ℕ) (f : Option Fault) → length list ≤ i
    → found_items a here own k (map item_tree (drop i list)) f ≡ f
item_end a here own k list i f le = onward_end item_tree (λ xs. found_items a here own k xs f) list i le

pub behind_step : (outer here : Names) (own : Bool) (k : Kind) (list : List Item) (i : ℕ) (x : Item) → i < length list → x ≡ get_or list i x
    → behind_items outer own k here (map item_tree (drop i list))
    ≡ behind_items outer own k (with_name here (letters x.name) (shaped (over here outer) own k (shape_tree x.shape))) (map item_tree (drop (i + 1) list))
behind_step outer here own k list i x lt is = onward item_tree (λ xs. behind_items outer own k here xs) list i x lt is

pub behind_end : (outer here : Names) (own : Bool) (k : Kind) (list : List Item) (i : ℕ) → length list ≤ i
    → behind_items outer own k here (map item_tree (drop i list)) ≡ here
behind_end outer here own k list i le = onward_end item_tree (λ xs. behind_items outer own k here xs) list i le

pub ruleset item_steps = (item_step, item_end, behind_step, behind_end)
