-- The list of a unit, one declaration after the other.
use Rattle.std.proofs.Common.{ℕ, ◌≡◌, ◌<◌, ◌≤◌, ◌+◌, Bool, List, map, length, get_or, drop, Option, refl, sym, ap, ◌∙◌}
use Rattle.std.proofs.lemmas.List.{drop_all}
use Rattle.spl_tree.specs.declared.declarations.Decl.{Decl}
use Rattle.spl_tree.specs.DeclarationTrees.{Heading, declarations}
use Rattle.spl_tree.specs.Spells.{declaration}
use Rattle.spl_sound.specs.spl_meaning.Names.{Names, nothing_declared}
use Rattle.spl_sound.specs.spl_meaning.Faults.{Fault}
use Rattle.spl_sound.specs.spl_meaning.DeclarationRules.{Around}
use Rattle.spl_uses.specs.spl_found.OwnNames.{behind_declaration, behind_declarations}
use Rattle.spl_uses.specs.spl_found.FoundUnits.{Waits, waits_behind, walked, walked_list}
use Rattle.spl_types.proofs.SilentLaws.{front}

-- what is found from a declaration on
pub walk_left : Around → (Heading → Bool) → Waits → Names → List Decl → ℕ → Option Fault → Option Fault
walk_left a agrees w here ds i f = walked_list a agrees w here (declarations (map declaration (drop i ds))) f

pub names_left : Names → List Decl → ℕ → Names
names_left here ds i = behind_declarations nothing_declared here (declarations (map declaration (drop i ds)))

pub walk_first : (a : Around) (agrees : Heading → Bool) (w : Waits) (here : Names) (ds : List Decl) (f : Option Fault)
    → walk_left a agrees w here ds 0 f ≡ walked_list a agrees w here (declarations (map declaration ds)) f
unfolding walk_left
walk_first a agrees w here ds f = refl

pub names_first : (here : Names) (ds : List Decl) → names_left here ds 0 ≡ behind_declarations nothing_declared here (declarations (map declaration ds))
unfolding names_left
names_first here ds = refl

pub walk_step : (a : Around) (agrees : Heading → Bool) (w v : Waits) (here there : Names) (ds : List Decl) (i : ℕ) (d : Decl) (f g : Option Fault)
    → i < length ds → d ≡ get_or ds i d → v ≡ waits_behind w (declaration d) → there ≡ behind_declaration nothing_declared here (declaration d)
    → g ≡ walked a agrees w here (declaration d) f
    → walk_left a agrees w here ds i f ≡ walk_left a agrees v there ds (i + 1) g
unfolding walk_left
walk_step a agrees w v here there ds i d f g lt is ws ns fs =
    let rest = declarations (map declaration (drop (i + 1) ds)) in
    ap (λ (left : List Decl). walked_list a agrees w here (declarations (map declaration left)) f) (front ds i d lt is)
    ∙ ap (λ (x : Waits). walked_list a agrees x (behind_declaration nothing_declared here (declaration d)) rest (walked a agrees w here (declaration d) f)) (sym ws)
    ∙ ap (λ (x : Names). walked_list a agrees v x rest (walked a agrees w here (declaration d) f)) (sym ns)
    ∙ ap (walked_list a agrees v there rest) (sym fs)

pub names_step : (here there : Names) (ds : List Decl) (i : ℕ) (d : Decl) → i < length ds → d ≡ get_or ds i d
    → there ≡ behind_declaration nothing_declared here (declaration d) → names_left here ds i ≡ names_left there ds (i + 1)
unfolding names_left
names_step here there ds i d lt is ns =
    ap (λ (left : List Decl). behind_declarations nothing_declared here (declarations (map declaration left))) (front ds i d lt is)
    ∙ ap (λ (x : Names). behind_declarations nothing_declared x (declarations (map declaration (drop (i + 1) ds)))) (sym ns)

pub walk_end : (a : Around) (agrees : Heading → Bool) (w : Waits) (here : Names) (ds : List Decl) (i : ℕ) (f : Option Fault)
    → length ds ≤ i → walk_left a agrees w here ds i f ≡ f
unfolding walk_left
walk_end a agrees w here ds i f le = ap (λ (left : List Decl). walked_list a agrees w here (declarations (map declaration left)) f) (drop_all i ds le)

pub names_end : (here : Names) (ds : List Decl) (i : ℕ) → length ds ≤ i → names_left here ds i ≡ here
unfolding names_left
names_end here ds i le = ap (λ (left : List Decl). behind_declarations nothing_declared here (declarations (map declaration left))) (drop_all i ds le)

pub ruleset global_steps = (walk_first, names_first, walk_end, names_end)
