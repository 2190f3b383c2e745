-- The codes of each table lie in a range, found by going over its lines once.
use Rattle.std.proofs.Common.{◌≡◌, ℕ, ◌<◌, ◌≤◌, ◌==◌, Bool, true, false, ◌&&◌, ◌||◌, ◌⊎◌, inl, inr, if◌then◌else◌, List, [], ◌∷◌, nat_lt, nat_le, refl, arith}
use Rattle.std.specs.List.{list_all}
use Rattle.std.proofs.lemmas.Bool.Decides.{nat_tests}
use Rattle.hp_instr.specs.Tables.{Line, is_listed, stack_operations, shifts, short_branches, immediates, controls, first_references, second_references}
use Rattle.hp_instr.specs.Fields.{is_op, is_shift, is_short_branch, is_immediate, is_control, is_reference}

-- whether each code of a table is at least `low` and below `high`
abbrev lie_between : ℕ → ℕ → List Line → Bool
lie_between low high table = list_all (λ entry. nat_le low entry.code && nat_lt entry.code high) table

-- one line more
listed_between-step : (low high first code : ℕ) (rest any : Bool) →
    ((nat_le low first && nat_lt first high) && rest) ≡ true → (first == code || any) ≡ true →
    (rest ≡ true → any ≡ true → (low ≤ code) × (code < high)) → (low ≤ code) × (code < high)
listed_between-step low high first code rest any all listed more = grind (arith, nat_tests)

-- then so is each code that is listed
listed_between : (low high : ℕ) (table : List Line) (code : ℕ) → lie_between low high table ≡ true →
    is_listed table code ≡ true → (low ≤ code) × (code < high)
listed_between low high [] code all listed = cc
listed_between low high (entry ∷ table) code all listed =
    listed_between-step low high entry.code code _ _ all listed (listed_between low high table code)

-- the codes of stack operations have six bits
pub op_below : (code : ℕ) → is_op code ≡ true → code < 64
unfolding is_op
op_below code h = (listed_between 0 64 stack_operations code refl h).1

-- the shifts are six
pub shift_below : (code : ℕ) → is_shift code ≡ true → code < 6
unfolding is_shift
shift_below code h = (listed_between 0 6 shifts code refl h).1

-- the short branches have the codes %10 to %22
pub short_branch_between : (code : ℕ) → is_short_branch code ≡ true → (8 ≤ code) × (code < 19)
unfolding is_short_branch
short_branch_between code h = listed_between 8 19 short_branches code refl h

-- a choice that holds: one of the tests before the last part does, or the last part itself
last_of_three : (a b x y z : Bool) → (if a then x else if b then y else z) ≡ true → ((a || b) ≡ true) ⊎ (z ≡ true)
last_of_three true b x y z h = inl refl
last_of_three false true x y z h = inl refl
last_of_three false false x y z h = inr h

-- the same with one test more
last_of_four : (a b c x y z u : Bool) → (if a then x else if b then y else if c then z else u) ≡ true →
    ((a || b || c) ≡ true) ⊎ (u ≡ true)
last_of_four true b c x y z u h = inl refl
last_of_four false true c x y z u h = inl refl
last_of_four false false true x y z u h = inl refl
last_of_four false false false x y z u h = inr h

-- the codes of major 2 that are not looked up in its table
few_below : (code : ℕ) → (code == 0 || (code == 11 || code == 12)) ≡ true → code < 16
few_below code h = grind (arith, nat_tests)

-- the codes of major 3 that are not looked up in its table
some_below : (code : ℕ) → (code == 9 || code == 10 || code == 14 || code == 11 || (code == 12 || code == 13)) ≡ true →
    code < 15
some_below code h = grind (arith, nat_tests)

-- the codes of major 2 have four bits
pub immediate_below : (code n : ℕ) → is_immediate code n ≡ true → code < 16
unfolding is_immediate
immediate_below code n h =
    elim (last_of_three (code == 0) (code == 11 || code == 12) _ _ _ h) [
      | inl few ↦ few_below code few
      | inr listed ↦ (listed_between 1 16 immediates code refl listed).1
    ]

-- the codes of major 3 are below 15
pub control_below : (code n : ℕ) → is_control code n ≡ true → code < 15
unfolding is_control
control_below code n h =
    elim (last_of_four (code == 9 || code == 10 || code == 14) (code == 11) (code == 12 || code == 13) _ _ _ _ h) [
      | inl some ↦ some_below code some
      | inr listed ↦ (listed_between 0 15 controls code refl listed).1
    ]

-- the majors of operations on a word in memory are 4 to 15
pub reference_between : (major : ℕ) (second : Bool) → is_reference major second ≡ true → (4 ≤ major) × (major < 16)
unfolding is_reference
reference_between major true h = listed_between 4 16 second_references major refl h
reference_between major false h = listed_between 4 16 first_references major refl h
