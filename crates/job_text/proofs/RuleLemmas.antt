-- The first test that fails, and what follows where none does.
use Rattle.std.proofs.Common.{◌≡◌, ℕ, zero, suc, ◌+◌, ◌<◌, ◌≤◌, Bool, true, false, List, [], ◌∷◌, length, get_or, drop, None, Some, refl, ap, ◌∙◌}
use Rattle.std.specs.Prelude.{slice_get}
use Rattle.job_lines.specs.Says.{Said}
use Rattle.job_text.specs.States.{State}
use Rattle.job_text.specs.Rules.{first_failing, kept, broken, is_in_limits, is_well_named, has_room, names_program, has_seat, fits_its_use, closes}
use Rattle.job_lines.proofs.ListLemmas.{fronted, dropped}

-- a test that is passed
pub passed_on : (tests : List Bool) (i n : ℕ) (t : Bool) → i < length tests → t ≡ get_or tests i t → t ≡ true
    → first_failing n (drop i tests) ≡ first_failing (n + 1) (drop (i + 1) tests)
passed_on tests i n t l e p = ap (first_failing n) (fronted tests i t l e ∙ ap (λ x. x ∷ drop (i + 1) tests) p)

-- one that fails
pub failed_on : (tests : List Bool) (i n : ℕ) (t : Bool) → i < length tests → t ≡ get_or tests i t → t ≡ false
    → first_failing n (drop i tests) ≡ Some n
failed_on tests i n t l e p = ap (first_failing n) (fronted tests i t l e ∙ ap (λ x. x ∷ drop (i + 1) tests) p)

pub none_fails : (tests : List Bool) (i n : ℕ) → length tests ≤ i → first_failing n (drop i tests) ≡ None
none_fails tests i n l = ap (first_failing n) (dropped tests i l)

pub ruleset failing_turns = (passed_on, failed_on, none_fails)

-- where no test fails each is passed
all_pass : (n : ℕ) (ts : List Bool) (i : ℕ) (t : Bool) → first_failing n ts ≡ None → slice_get ts i ≡ Some t → t ≡ true
all_pass n [] i t h e = cc
all_pass n (true ∷ ts) zero t h e = cc
all_pass n (true ∷ ts) (suc i) t h e = all_pass (n + 1) ts i t h e
all_pass n (false ∷ ts) i t h e = cc

pub limits_kept : (prep : Bool) (s : State) (said : Said) → broken prep s said ≡ None → is_in_limits s said ≡ true
unfolding broken
limits_kept prep s said h = all_pass 1 (kept prep s said) 2 (is_in_limits s said) h refl

pub named_kept : (prep : Bool) (s : State) (said : Said) → broken prep s said ≡ None → is_well_named s said ≡ true
unfolding broken
named_kept prep s said h = all_pass 1 (kept prep s said) 4 (is_well_named s said) h refl

pub room_kept : (prep : Bool) (s : State) (said : Said) → broken prep s said ≡ None → has_room s said ≡ true
unfolding broken
room_kept prep s said h = all_pass 1 (kept prep s said) 5 (has_room s said) h refl

pub program_kept : (prep : Bool) (s : State) (said : Said) → broken prep s said ≡ None → names_program s said ≡ true
unfolding broken
program_kept prep s said h = all_pass 1 (kept prep s said) 7 (names_program s said) h refl

pub seat_kept : (prep : Bool) (s : State) (said : Said) → broken prep s said ≡ None → has_seat s said ≡ true
unfolding broken
seat_kept prep s said h = all_pass 1 (kept prep s said) 8 (has_seat s said) h refl

pub use_kept : (prep : Bool) (s : State) (said : Said) → broken prep s said ≡ None → fits_its_use prep s said ≡ true
unfolding broken
use_kept prep s said h = all_pass 1 (kept prep s said) 10 (fits_its_use prep s said) h refl

pub close_kept : (prep : Bool) (s : State) (said : Said) → broken prep s said ≡ None → closes s said ≡ true
unfolding broken
close_kept prep s said h = all_pass 1 (kept prep s said) 12 (closes s said) h refl

pub ruleset kept_rules = (limits_kept, named_kept, room_kept)
