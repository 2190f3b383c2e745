-- Loops over declarations of data and over declarations: the items, and what names stand for, from one on.
use Rattle.std.proofs.Common.{◌≡◌, ◌<◌, ◌≤◌, ℕ, ◌+◌, Bool, List, [], ◌∷◌, ◌++◌, map, drop, length, get_or}
use Rattle.spl_tree.specs.declared.expressions.Kind.{Kind}
use Rattle.spl_tree.specs.declared.declarations.Item.{Item}
use Rattle.spl_tree.specs.declared.declarations.Decl.{Decl}
use Rattle.spl_tree.specs.DeclarationTrees.{declarations}
use Rattle.spl_tree.specs.Views.{letters}
use Rattle.spl_tree.specs.Spells.{item_tree, shape_tree, declaration}
use Rattle.spl_sorts.specs.spl_meaning.Names.{Names}
use Rattle.spl_sorts.specs.spl_meaning.Tables.{shaped}
use Rattle.spl_spots.specs.spl_found.OwnNames.{over, with_name, behind_items, behind_declaration, behind_declarations}
use Rattle.spl_lists.proofs.NameWalks.{onward, onward_end}
use Rattle.spl_places.specs.ListedData.{items_data, declaration_data, list_data}

pub item_step : (outer here : Names) (own : Bool) (k : Kind) (list : List Item) (i : ℕ) (x : Item) → i < length list → x ≡ get_or list i x
    → items_data outer own k here (map item_tree (drop i list))
    ≡ record { name = letters x.name; at = x.at; sort = shaped (over here outer) own k (shape_tree x.shape) }
    ∷ items_data outer own k (with_name here (letters x.name) (shaped (over here outer) own k (shape_tree x.shape))) (map item_tree (drop (i + 1) list))
item_step outer here own k list i x lt is = onward item_tree (items_data outer own k here) list i x lt is

pub item_end : (outer here : Names) (own : Bool) (k : Kind) (list : List Item) (i : ℕ) → length list ≤ i
    → items_data outer own k here (map item_tree (drop i list)) ≡ []
item_end outer here own k list i le = onward_end item_tree (items_data outer own k here) list i le

pub behind_step : (outer here : Names) (own : Bool) (k : Kind) (list : List Item) (i : ℕ) (x : Item) → i < length list → x ≡ get_or list i x
    → behind_items outer own k here (map item_tree (drop i list))
    ≡ behind_items outer own k (with_name here (letters x.name) (shaped (over here outer) own k (shape_tree x.shape))) (map item_tree (drop (i + 1) list))
behind_step outer here own k list i x lt is = onward item_tree (behind_items outer own k here) list i x lt is

pub behind_end : (outer here : Names) (own : Bool) (k : Kind) (list : List Item) (i : ℕ) → length list ≤ i
    → behind_items outer own k here (map item_tree (drop i list)) ≡ here
behind_end outer here own k list i le = onward_end item_tree (behind_items outer own k here) list i le

pub ruleset item_steps = (item_step, item_end, behind_step, behind_end)

pub declaration_step : (outer here : Names) (list : List Decl) (i : ℕ) (d : Decl) → i < length list → d ≡ get_or list i d
    → list_data outer here (declarations (map declaration (drop i list)))
    ≡ declaration_data outer here (declaration d) ++ list_data outer (behind_declaration outer here (declaration d)) (declarations (map declaration (drop (i + 1) list)))
declaration_step outer here list i d lt is = onward declaration (λ ds. list_data outer here (declarations ds)) list i d lt is

pub declaration_end : (outer here : Names) (list : List Decl) (i : ℕ) → length list ≤ i
    → list_data outer here (declarations (map declaration (drop i list))) ≡ []
declaration_end outer here list i le = onward_end declaration (λ ds. list_data outer here (declarations ds)) list i le

pub declarations_step : (outer here : Names) (list : List Decl) (i : ℕ) (d : Decl) → i < length list → d ≡ get_or list i d
    → behind_declarations outer here (declarations (map declaration (drop i list)))
    ≡ behind_declarations outer (behind_declaration outer here (declaration d)) (declarations (map declaration (drop (i + 1) list)))
declarations_step outer here list i d lt is = onward declaration (λ ds. behind_declarations outer here (declarations ds)) list i d lt is

pub declarations_end : (outer here : Names) (list : List Decl) (i : ℕ) → length list ≤ i
    → behind_declarations outer here (declarations (map declaration (drop i list))) ≡ here
declarations_end outer here list i le = onward_end declaration (λ ds. behind_declarations outer here (declarations ds)) list i le

pub ruleset declaration_steps = (declaration_step, declaration_end, declarations_step, declarations_end)
