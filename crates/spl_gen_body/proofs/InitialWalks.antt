-- Loops over items and declarations: the initial values that are stored from one on.
use Rattle.std.proofs.Common.{◌≡◌, ◌<◌, ◌≤◌, ℕ, ◌+◌, Bool, List, ◌++◌, map, drop, length, get_or, false, subst, refl, ◌∙◌}
use Rattle.std.proofs.lemmas.Grind.{flat_map-append}
use Rattle.spl_tree.specs.declared.expressions.Kind.{Kind}
use Rattle.spl_tree.specs.declared.declarations.Item.{Item}
use Rattle.spl_tree.specs.declared.declarations.Decl.{Decl}
use Rattle.spl_tree.specs.DeclarationTrees.{declarations}
use Rattle.spl_tree.specs.Views.{letters}
use Rattle.spl_tree.specs.Spells.{item_tree, shape_tree, declaration}
use Rattle.spl_sorts.specs.spl_meaning.Names.{Names}
use Rattle.spl_sorts.specs.spl_meaning.Tables.{shaped}
use Rattle.spl_gen_expr.specs.spl_found.OwnNames.{over, with_name, behind_declaration}
use Rattle.spl_initials.proofs.spl_lists_proofs.NameWalks.{onward, onward_end}
use Rattle.spl_initials.proofs.spl_places_proofs.DataWalks.{behind_step, behind_end, declarations_step, declarations_end}
use Rattle.spl_initials.specs.Cells.{Found, item_initial, initials_of_items, initials_of_declaration, initials_by}
use Rattle.spl_branch.specs.declared.buffer.Code.{Code}
use Rattle.spl_body_code.specs.spl_code.Parts.{pieces}
use Rattle.spl_body_code.specs.spl_code.Appends.{Appends}
use Rattle.spl_body_code.proofs.spl_code_proofs.AppendLaws.{none_appends}
use Rattle.spl_operations.proofs.PutLemmas.{pieces_then}
use Rattle.spl_body_code.specs.Cells.{initial_set, initials_set}

-- what names stand for behind an item
abbrev pub behind_one : Names → Bool → Kind → Names → Item → Names
behind_one outer own k here x = with_name here (letters x.name) (shaped (over here outer) own k (shape_tree x.shape))

items_onward : (outer here : Names) (own : Bool) (k : Kind) (f : Found) (list : List Item) (i : ℕ) (x : Item) → i < length list → x ≡ get_or list i x
    → initials_set (initials_of_items outer own k f here (map item_tree (drop i list)))
    ≡ initials_set (item_initial outer k f here (item_tree x))
    ++ initials_set (initials_of_items outer own k f (behind_one outer own k here x) (map item_tree (drop (i + 1) list)))
items_onward outer here own k f list i x lt is =
    onward item_tree (λ xs. initials_set (initials_of_items outer own k f here xs)) list i x lt is
    ∙ flat_map-append initial_set (item_initial outer k f here (item_tree x))
    (initials_of_items outer own k f (behind_one outer own k here x) (map item_tree (drop (i + 1) list)))

-- the values of one item more, behind which names stand for what they do there
pub item_step : (outer here next : Names) (own : Bool) (k : Kind) (f : Found) (list : List Item) (i : ℕ) (x : Item) {c d e : Code} → i < length list → x ≡ get_or list i x
    → next ≡ behind_one outer own k here x
    → Appends (pieces (initials_set (item_initial outer k f here (item_tree x)))) c d
    → Appends (pieces (initials_set (initials_of_items outer own k f next (map item_tree (drop (i + 1) list))))) d e
    → Appends (pieces (initials_set (initials_of_items outer own k f here (map item_tree (drop i list))))) c e
item_step outer here next own k f list i x {c} {d} {e} lt is names a b =
    rw (items_onward outer here own k f list i x lt is)
    (pieces_then {xs = initials_set (item_initial outer k f here (item_tree x))}
    {ys = initials_set (initials_of_items outer own k f (behind_one outer own k here x) (map item_tree (drop (i + 1) list)))} a
    (subst (λ (n : Names). Appends (pieces (initials_set (initials_of_items outer own k f n (map item_tree (drop (i + 1) list))))) d e) names b))

pub item_end : (outer here : Names) (own : Bool) (k : Kind) (f : Found) (list : List Item) (i : ℕ) (c : Code) → length list ≤ i
    → Appends (pieces (initials_set (initials_of_items outer own k f here (map item_tree (drop i list))))) c c
item_end outer here own k f list i c le = rw (onward_end item_tree (λ xs. initials_set (initials_of_items outer own k f here xs)) list i le) (none_appends refl)

pub ruleset item_steps = (item_end, behind_step, behind_end)

declarations_onward : (outer here : Names) (f : Found) (list : List Decl) (i : ℕ) (x : Decl) → i < length list → x ≡ get_or list i x
    → initials_set (initials_by false outer f here (declarations (map declaration (drop i list))))
    ≡ initials_set (initials_of_declaration false outer f here (declaration x))
    ++ initials_set (initials_by false outer f (behind_declaration outer here (declaration x)) (declarations (map declaration (drop (i + 1) list))))
declarations_onward outer here f list i x lt is =
    onward declaration (λ ds. initials_set (initials_by false outer f here (declarations ds))) list i x lt is
    ∙ flat_map-append initial_set (initials_of_declaration false outer f here (declaration x))
    (initials_by false outer f (behind_declaration outer here (declaration x)) (declarations (map declaration (drop (i + 1) list))))

-- the values of one declaration more
pub declaration_step : (outer here next : Names) (f : Found) (list : List Decl) (i : ℕ) (x : Decl) {c d e : Code} → i < length list → x ≡ get_or list i x
    → next ≡ behind_declaration outer here (declaration x)
    → Appends (pieces (initials_set (initials_of_declaration false outer f here (declaration x)))) c d
    → Appends (pieces (initials_set (initials_by false outer f next (declarations (map declaration (drop (i + 1) list)))))) d e
    → Appends (pieces (initials_set (initials_by false outer f here (declarations (map declaration (drop i list)))))) c e
declaration_step outer here next f list i x {c} {d} {e} lt is names a b =
    rw (declarations_onward outer here f list i x lt is)
    (pieces_then {xs = initials_set (initials_of_declaration false outer f here (declaration x))}
    {ys = initials_set (initials_by false outer f (behind_declaration outer here (declaration x)) (declarations (map declaration (drop (i + 1) list))))} a
    (subst (λ (n : Names). Appends (pieces (initials_set (initials_by false outer f n (declarations (map declaration (drop (i + 1) list)))))) d e) names b))

pub declaration_end : (outer here : Names) (f : Found) (list : List Decl) (i : ℕ) (c : Code) → length list ≤ i
    → Appends (pieces (initials_set (initials_by false outer f here (declarations (map declaration (drop i list)))))) c c
declaration_end outer here f list i c le =
    rw (onward_end declaration (λ ds. initials_set (initials_by false outer f here (declarations ds))) list i le) (none_appends refl)

pub ruleset declaration_steps = (declaration_end, declarations_step, declarations_end)
