-- Loops over items and declarations: the initial values that are put, and what names stand for, from one on.
use Rattle.std.proofs.Common.{◌≡◌, ◌<◌, ◌≤◌, ℕ, ◌+◌, Bool, List, map, drop, length, get_or, Option, ◌∙◌}
use Rattle.spl_tree.specs.declared.expressions.Kind.{Kind}
use Rattle.spl_tree.specs.declared.declarations.Item.{Item}
use Rattle.spl_tree.specs.declared.declarations.Decl.{Decl}
use Rattle.spl_tree.specs.DeclarationTrees.{declarations}
use Rattle.spl_tree.specs.Views.{letters}
use Rattle.spl_tree.specs.Spells.{item_tree, shape_tree, declaration}
use Rattle.spl_sorts.specs.spl_meaning.Names.{Names}
use Rattle.spl_sorts.specs.spl_meaning.Tables.{shaped}
use Rattle.spl_sorts.specs.spl_meaning.Places.{put_initials}
use Rattle.spl_sorts.specs.spl_meaning.Runs.{global_address}
use Rattle.spl_places.specs.spl_found.OwnNames.{over, with_name, behind_declaration}
use Rattle.spl_places.proofs.spl_lists_proofs.NameWalks.{onward, onward_end}
use Rattle.spl_places.proofs.DataWalks.{behind_step, behind_end, declarations_step, declarations_end}
use Rattle.spl_initials.specs.Cells.{Found, item_initial, initials_of_items, initials_of_declaration, initials_by}
use Rattle.spl_initials.proofs.CellWalks.{initials_both}

pub item_step : (outer here : Names) (own : Bool) (k : Kind) (f : Found) (list : List Item) (i : ℕ) (x : Item) (mem : ℕ → Option ℕ) → i < length list → x ≡ get_or list i x
    → put_initials global_address (initials_of_items outer own k f here (map item_tree (drop i list))) mem
    ≡ put_initials global_address (initials_of_items outer own k f (with_name here (letters x.name) (shaped (over here outer) own k (shape_tree x.shape))) (map item_tree (drop (i + 1) list)))
    (put_initials global_address (item_initial outer k f here (item_tree x)) mem)
item_step outer here own k f list i x mem lt is =
    onward item_tree (λ xs. put_initials global_address (initials_of_items outer own k f here xs) mem) list i x lt is
    ∙ initials_both global_address (item_initial outer k f here (item_tree x))
    (initials_of_items outer own k f (with_name here (letters x.name) (shaped (over here outer) own k (shape_tree x.shape))) (map item_tree (drop (i + 1) list))) mem

pub item_end : (outer here : Names) (own : Bool) (k : Kind) (f : Found) (list : List Item) (i : ℕ) (mem : ℕ → Option ℕ) → length list ≤ i
    → put_initials global_address (initials_of_items outer own k f here (map item_tree (drop i list))) mem ≡ mem
item_end outer here own k f list i mem le = onward_end item_tree (λ xs. put_initials global_address (initials_of_items outer own k f here xs) mem) list i le

pub ruleset item_steps = (item_step, item_end, behind_step, behind_end)

pub declaration_step : (own : Bool) (outer here : Names) (f : Found) (list : List Decl) (i : ℕ) (d : Decl) (mem : ℕ → Option ℕ) → i < length list → d ≡ get_or list i d
    → put_initials global_address (initials_by own outer f here (declarations (map declaration (drop i list)))) mem
    ≡ put_initials global_address (initials_by own outer f (behind_declaration outer here (declaration d)) (declarations (map declaration (drop (i + 1) list))))
    (put_initials global_address (initials_of_declaration own outer f here (declaration d)) mem)
declaration_step own outer here f list i d mem lt is =
    onward declaration (λ ds. put_initials global_address (initials_by own outer f here (declarations ds)) mem) list i d lt is
    ∙ initials_both global_address (initials_of_declaration own outer f here (declaration d))
    (initials_by own outer f (behind_declaration outer here (declaration d)) (declarations (map declaration (drop (i + 1) list)))) mem

pub declaration_end : (own : Bool) (outer here : Names) (f : Found) (list : List Decl) (i : ℕ) (mem : ℕ → Option ℕ) → length list ≤ i
    → put_initials global_address (initials_by own outer f here (declarations (map declaration (drop i list)))) mem ≡ mem
declaration_end own outer here f list i mem le =
    onward_end declaration (λ ds. put_initials global_address (initials_by own outer f here (declarations ds)) mem) list i le

pub ruleset declaration_steps = (declaration_step, declaration_end, declarations_step, declarations_end)
