-- Loops over declarations and units: the first limit, from one on.
use Rattle.std.proofs.Common.{ℕ, ◌≡◌, ◌<◌, ◌≤◌, ◌+◌, List, map, drop, length, get_or, Option, sym, ap, ◌∙◌}
use Rattle.spl_tree.specs.declared.declarations.Decl.{Decl}
use Rattle.spl_tree.specs.declared.units.SplUnit.{SplUnit}
use Rattle.spl_tree.specs.DeclarationTrees.{declarations}
use Rattle.spl_tree.specs.Spells.{declaration}
use Rattle.spl_sound.specs.spl_meaning.Names.{Names, nothing_declared}
use Rattle.spl_sound.specs.spl_meaning.Limits.{Full}
use Rattle.spl_areas.specs.spl_found.OwnNames.{behind_declaration, behind_declarations}
use Rattle.spl_areas.proofs.spl_lists_proofs.NameWalks.{onward, onward_end}
use Rattle.spl_sound.specs.Spelled.{source_of}
use Rattle.spl_limits.specs.FirstPassed.{behind_inner, behind_subroutines, behind_global, behind_globals, behind_unit, behind_units}

-- ---- subroutines

pub inner_step : (around : Names) (list : List Decl) (i : ℕ) (d : Decl) (f : Option Full) → i < length list → d ≡ get_or list i d
    → behind_subroutines around (declarations (map declaration (drop i list))) f
    ≡ behind_subroutines around (declarations (map declaration (drop (i + 1) list))) (behind_inner around (declaration d) f)
inner_step around list i d f lt is = onward declaration (λ ds. behind_subroutines around (declarations ds) f) list i d lt is

pub inner_end : (around : Names) (list : List Decl) (i : ℕ) (f : Option Full) → length list ≤ i
    → behind_subroutines around (declarations (map declaration (drop i list))) f ≡ f
inner_end around list i f le = onward_end declaration (λ ds. behind_subroutines around (declarations ds) f) list i le

pub ruleset inner_steps = (inner_step, inner_end)

-- ---- procedures

pub global_step : (here : Names) (list : List Decl) (i : ℕ) (d : Decl) (f : Option Full) → i < length list → d ≡ get_or list i d
    → behind_globals here (declarations (map declaration (drop i list))) f
    ≡ behind_globals (behind_declaration nothing_declared here (declaration d)) (declarations (map declaration (drop (i + 1) list)))
    (behind_global (behind_declaration nothing_declared here (declaration d)) (declaration d) f)
global_step here list i d f lt is = onward declaration (λ ds. behind_globals here (declarations ds) f) list i d lt is

pub global_end : (here : Names) (list : List Decl) (i : ℕ) (f : Option Full) → length list ≤ i
    → behind_globals here (declarations (map declaration (drop i list))) f ≡ f
global_end here list i f le = onward_end declaration (λ ds. behind_globals here (declarations ds) f) list i le

pub names_step : (here : Names) (list : List Decl) (i : ℕ) (d : Decl) → i < length list → d ≡ get_or list i d
    → behind_declarations nothing_declared here (declarations (map declaration (drop i list)))
    ≡ behind_declarations nothing_declared (behind_declaration nothing_declared here (declaration d)) (declarations (map declaration (drop (i + 1) list)))
names_step here list i d lt is = onward declaration (λ ds. behind_declarations nothing_declared here (declarations ds)) list i d lt is

pub names_end : (here : Names) (list : List Decl) (i : ℕ) → length list ≤ i
    → behind_declarations nothing_declared here (declarations (map declaration (drop i list))) ≡ here
names_end here list i le = onward_end declaration (λ ds. behind_declarations nothing_declared here (declarations ds)) list i le

pub ruleset global_steps = (global_step, global_end, names_step, names_end)

-- a declaration more
pub global_more : (f g init : Option Full) (outer here behind : Names) (list : List Decl) (i : ℕ) (d : Decl) → i < length list → d ≡ get_or list i d
    → outer ≡ nothing_declared → behind ≡ behind_declaration outer here (declaration d) → g ≡ behind_global behind (declaration d) f
    → behind_globals here (declarations (map declaration (drop i list))) f ≡ init
    → behind_globals behind (declarations (map declaration (drop (i + 1) list))) g ≡ init
global_more f g init outer here behind list i d lt is none names first rest =
    let left = declarations (map declaration (drop (i + 1) list)) in
    ap (λ (k : Option Full). behind_globals behind left k) first
    ∙ ap (λ (b : Names). behind_globals b left (behind_global b (declaration d) f)) (names ∙ ap (λ (o : Names). behind_declaration o here (declaration d)) none)
    ∙ sym (global_step here list i d f lt is) ∙ rest

pub names_more : (init outer here behind : Names) (list : List Decl) (i : ℕ) (d : Decl) → i < length list → d ≡ get_or list i d
    → outer ≡ nothing_declared → behind ≡ behind_declaration outer here (declaration d)
    → behind_declarations nothing_declared here (declarations (map declaration (drop i list))) ≡ init
    → behind_declarations nothing_declared behind (declarations (map declaration (drop (i + 1) list))) ≡ init
names_more init outer here behind list i d lt is none names rest =
    ap (λ (b : Names). behind_declarations nothing_declared b (declarations (map declaration (drop (i + 1) list))))
    (names ∙ ap (λ (o : Names). behind_declaration o here (declaration d)) none)
    ∙ sym (names_step here list i d lt is) ∙ rest

-- ---- units

pub unit_step : (list : List SplUnit) (i : ℕ) (u : SplUnit) (f : Option Full) → i < length list → u ≡ get_or list i u
    → behind_units (map source_of (drop i list)) f
    ≡ behind_units (map source_of (drop (i + 1) list)) (behind_unit (declarations (map declaration u.items.items)) f)
unit_step list i u f lt is = onward source_of (λ us. behind_units us f) list i u lt is

pub unit_end : (list : List SplUnit) (i : ℕ) (f : Option Full) → length list ≤ i → behind_units (map source_of (drop i list)) f ≡ f
unit_end list i f le = onward_end source_of (λ us. behind_units us f) list i le

pub ruleset unit_steps = (unit_step, unit_end)
