-- Loops over declarations and units: the rooms from one on, and the names behind them.
use Rattle.std.proofs.Common.{ℕ, Bool, true, false, ◌≡◌, ◌<◌, ◌≤◌, ◌+◌, List, [], ◌∷◌, ◌++◌, map, drop, length, get_or, Option, Some, None, refl, sym, ap, ◌∙◌}
use Rattle.std.specs.Prelude.{if◌then◌else◌}
use Rattle.spl_tree.specs.declared.declarations.Decl.{Decl}
use Rattle.spl_tree.specs.declared.units.SplUnit.{SplUnit}
use Rattle.spl_tree.specs.DeclarationTrees.{declarations}
use Rattle.spl_tree.specs.Spells.{declaration}
use Rattle.spl_tree.specs.Views.{statement}
use Rattle.spl_sound.specs.spl_meaning.Names.{Names, Sort, or_else, nothing_declared}
use Rattle.spl_places.specs.spl_found.OwnNames.{over, behind_declaration, behind_declarations}
use Rattle.spl_places.proofs.spl_lists_proofs.NameWalks.{onward, onward_end}
use Rattle.spl_sound.specs.spl_meaning.Limits.{joined}
use Rattle.spl_sound.specs.Spelled.{source_of}
use Rattle.spl_rooms.specs.declared.room_type.Room.{Room}
use Rattle.spl_rooms.specs.Walked.{inner_rooms, subroutines_rooms, body_depth, main_rooms, global_rooms, globals_rooms, unit_rooms}

pub append_same : {A : Type 0} (xs ys zs : List A) → xs ++ ys ++ zs ≡ xs ++ (ys ++ zs)
append_same [] ys zs = refl
append_same (x ∷ xs) ys zs = ap (λ ws. x ∷ ws) (append_same xs ys zs)

-- ---- names

-- what is looked up twice
twice : (o p : Option Sort) → or_else o (or_else o p) ≡ or_else o p
twice None p = refl
twice (Some s) p = refl

pub over_twice : (here outer : Names) → over here (over here outer) ≡ over here outer
over_twice here outer i x = twice (here x) (outer x) i

-- nothing stands outside a unit's list
pub over_nothing : (here : Names) → over here nothing_declared ≡ here
over_nothing here i x = by (here x) i
  where
    by : (o : Option Sort) → or_else o None ≡ o
    by None = refl
    by (Some s) = refl

pub names_step : (here : Names) (list : List Decl) (i : ℕ) (d : Decl) → i < length list → d ≡ get_or list i d
    → behind_declarations nothing_declared here (declarations (map declaration (drop i list)))
    ≡ behind_declarations nothing_declared (behind_declaration nothing_declared here (declaration d)) (declarations (map declaration (drop (i + 1) list)))
names_step here list i d lt is = onward declaration (λ ds. behind_declarations nothing_declared here (declarations ds)) list i d lt is

pub names_end : (here : Names) (list : List Decl) (i : ℕ) → length list ≤ i
    → behind_declarations nothing_declared here (declarations (map declaration (drop i list))) ≡ here
names_end here list i le = onward_end declaration (λ ds. behind_declarations nothing_declared here (declarations ds)) list i le

pub ruleset name_steps = (names_step, names_end)

-- a declaration more
pub names_more : (init outer here behind : Names) (list : List Decl) (i : ℕ) (d : Decl) → i < length list → d ≡ get_or list i d
    → outer ≡ nothing_declared → behind ≡ behind_declaration outer here (declaration d)
    → behind_declarations nothing_declared here (declarations (map declaration (drop i list))) ≡ init
    → behind_declarations nothing_declared behind (declarations (map declaration (drop (i + 1) list))) ≡ init
names_more init outer here behind list i d lt is none names rest =
    ap (λ (b : Names). behind_declarations nothing_declared b (declarations (map declaration (drop (i + 1) list))))
    (names ∙ ap (λ (o : Names). behind_declaration o here (declaration d)) none)
    ∙ sym (names_step here list i d lt is) ∙ rest

-- ---- subroutines

pub inner_step : (around : Names) (list : List Decl) (i : ℕ) (d : Decl) → i < length list → d ≡ get_or list i d
    → subroutines_rooms around (declarations (map declaration (drop i list)))
    ≡ inner_rooms around (declaration d) ++ subroutines_rooms around (declarations (map declaration (drop (i + 1) list)))
inner_step around list i d lt is = onward declaration (λ ds. subroutines_rooms around (declarations ds)) list i d lt is

pub inner_end : (around : Names) (list : List Decl) (i : ℕ) → length list ≤ i → subroutines_rooms around (declarations (map declaration (drop i list))) ≡ []
inner_end around list i le = onward_end declaration (λ ds. subroutines_rooms around (declarations ds)) list i le

pub ruleset inner_steps = (inner_step, inner_end)

-- ---- procedures

pub global_step : (here : Names) (list : List Decl) (i : ℕ) (d : Decl) → i < length list → d ≡ get_or list i d
    → globals_rooms here (declarations (map declaration (drop i list)))
    ≡ global_rooms (behind_declaration nothing_declared here (declaration d)) (declaration d)
    ++ globals_rooms (behind_declaration nothing_declared here (declaration d)) (declarations (map declaration (drop (i + 1) list)))
global_step here list i d lt is = onward declaration (λ ds. globals_rooms here (declarations ds)) list i d lt is

pub global_end : (here : Names) (list : List Decl) (i : ℕ) → length list ≤ i → globals_rooms here (declarations (map declaration (drop i list))) ≡ []
global_end here list i le = onward_end declaration (λ ds. globals_rooms here (declarations ds)) list i le

pub ruleset global_steps = (global_step, global_end)

-- a declaration more
pub global_more : (all new init : List Room) (outer here behind : Names) (list : List Decl) (i : ℕ) (d : Decl) → i < length list → d ≡ get_or list i d
    → outer ≡ nothing_declared → behind ≡ behind_declaration outer here (declaration d) → new ≡ all ++ global_rooms behind (declaration d)
    → all ++ globals_rooms here (declarations (map declaration (drop i list))) ≡ init
    → new ++ globals_rooms behind (declarations (map declaration (drop (i + 1) list))) ≡ init
global_more all new init outer here behind list i d lt is none names rooms rest =
    let left = declarations (map declaration (drop (i + 1) list)) in
    ap (λ (xs : List Room). xs ++ globals_rooms behind left) rooms
    ∙ append_same all (global_rooms behind (declaration d)) (globals_rooms behind left)
    ∙ ap (λ (b : Names). all ++ (global_rooms b (declaration d) ++ globals_rooms b left)) (names ∙ ap (λ (o : Names). behind_declaration o here (declaration d)) none)
    ∙ ap (λ (xs : List Room). all ++ xs) (sym (global_step here list i d lt is)) ∙ rest

-- ---- units

pub unit_step : (list : List SplUnit) (i : ℕ) (u : SplUnit) → i < length list → u ≡ get_or list i u
    → joined unit_rooms (map source_of (drop i list)) ≡ unit_rooms (source_of u) ++ joined unit_rooms (map source_of (drop (i + 1) list))
unit_step list i u lt is = onward source_of (λ us. joined unit_rooms us) list i u lt is

pub unit_end : (list : List SplUnit) (i : ℕ) → length list ≤ i → joined unit_rooms (map source_of (drop i list)) ≡ []
unit_end list i le = onward_end source_of (λ us. joined unit_rooms us) list i le

pub ruleset unit_steps = (unit_step, unit_end)

-- ---- main bodies

abbrev main_of : SplUnit → ℕ → Room
main_of u words = record { at = u.at; locals = 0; depth = words; result = None }

-- the room of a unit that is no subprogram
pub main_found : (own outer : Names) (u : SplUnit) (words : ℕ) (all new : List Room) → u.subprogram ≡ false → outer ≡ nothing_declared
    → words ≡ body_depth (over own outer) (map statement u.statements.items) → new ≡ all ++ main_of u words ∷ [] → new ≡ all ++ main_rooms own (source_of u)
main_found own outer u words all new is none depth pushed =
    let ss = map statement u.statements.items in
    pushed
    ∙ ap (λ (n : ℕ). all ++ main_of u n ∷ [])
    (depth ∙ ap (λ (o : Names). body_depth (over own o) ss) none ∙ ap (λ (names : Names). body_depth names ss) (over_nothing own))
    ∙ ap (λ (b : Bool). all ++ (if b then [] else main_of u (body_depth own ss) ∷ [])) (sym is)

pub none_found : (own : Names) (u : SplUnit) (all : List Room) → u.subprogram ≡ true → all ≡ all ++ main_rooms own (source_of u)
none_found own u all is =
    sym (nothing_behind all) ∙ ap (λ (b : Bool). all ++ (if b then [] else main_of u (body_depth own (map statement u.statements.items)) ∷ [])) (sym is)
  where
    nothing_behind : {A : Type 0} (xs : List A) → xs ++ [] ≡ xs
    nothing_behind [] = refl
    nothing_behind (x ∷ xs) = ap (λ ws. x ∷ ws) (nothing_behind xs)
