-- Modules, with what they define and want, are few: at most twice the calls and entries of their units, each of which has a token.
use Rattle.std.proofs.Common.{◌≡◌, ◌<◌, ◌≤◌, ◌⊎◌, inl, inr, ℕ, suc, ◌+◌, ◌*◌, ◌^◌, ◌&&◌, nat_eq, not, Bool, true, false, if◌then◌else◌, List, [], ◌∷◌, ◌++◌, length, Some, refl, sym, ap, subst, ◌∙◌, arith}
use Rattle.std.specs.List.{slice_get}
use Rattle.std.specs.Global.{Vec}
use Rattle.std.proofs.lemmas.Bool.{ltb-true, cases_lt}
use Rattle.std.proofs.lemmas.List.{length-map}
use Rattle.spl_wanted_names.specs.spl_meaning.Names.{find}
use Rattle.spl_wanted_names.specs.spl_meaning.Tables.{Source}
use Rattle.spl_wanted_names.specs.spl_meaning.Bodies.{Reached, reached_behind}
use Rattle.spl_wanted_names.specs.spl_sound.Spelled.{most_tokens}
use Rattle.mpe_segmenter.specs.spl_tree.StatementTrees.{statements}
use Rattle.mpe_segmenter.specs.spl_branch.declared.buffer.Code.{Code}
use Rattle.mpe_segmenter.specs.spl_branch.declared.modules.Want.{Want}
use Rattle.mpe_segmenter.specs.spl_branch.declared.modules.Module.{Module}
use Rattle.mpe_segmenter.specs.spl_branch.Modules.{define_of}
use Rattle.spl_wanted_names.specs.spl_scopes.Entries.{Entry, module_entries}
use Rattle.spl_wanted_names.specs.spl_scopes.Scopes.{Placed, first_reached, placed_units}
use Rattle.spl_wanted_names.specs.spl_modules.Made.{made_of, made_from}
use Rattle.spl_wanted_names.specs.spl_module_code.Modules.{uses, is_taken, numbered, marks_before, IsCodeOf, IsModuleOf, AreOfUnit, AreOf, program_uses}
use Rattle.spl_wanted_names.specs.spl_module_code.Modules.{AreOfUnit as u}
use Rattle.spl_wanted_names.specs.spl_module_code.Modules.{AreOf as a}
use Rattle.mpe_segmenter.specs.Entered.{total}
use Rattle.spl_wanted_names.specs.spl_few_calls.Calls.{calls_within, unit_calls}
use Rattle.spl_wanted_names.proofs.spl_few_calls_proofs.Units.{few_in_units}
use Rattle.spl_wanted_names.specs.Counts.{module_calls}
use Rattle.spl_wanted_names.proofs.Modules.{wants_known}
use Rattle.spl_formed_modules.specs.Laws.{ModulesAreFew}
use Rattle.spl_formed_modules.proofs.Formed.{next_used}
use Rattle.spl_formed_modules.proofs.Counted.{unit_weight_at, module_weight, unit_left, split_unit, left_first}

-- ---- a module

length_made : (k : ℕ) (es : List Entry) → length (made_from k es) ≡ length es
length_made k [] = refl
length_made k (e ∷ es) = ap suc (length_made (suc k) es)

entries_are : (p : Placed) (name : List ℕ) (g : ℕ) (c : Code) → IsCodeOf p name g c → length c.entries.items ≡ length (module_entries p.unit g)
entries_are p name g c is = sym (length-map c.entries.items made_of) ∙ ap length is.entries ∙ length_made 0 (module_entries p.unit g)

defines_are : (p : Placed) (name : List ℕ) (g : ℕ) (m : Module) → IsModuleOf p name g m → length m.defines.items ≡ length (module_entries p.unit g)
defines_are p name g m of = by (cases_lt 16383 m.size)
  where
    by : (16383 < m.size) ⊎ (m.size ≤ 16383) → length m.defines.items ≡ length (module_entries p.unit g)
    by (inl long) = ap length (of.oversized long).defines ∙ length-map of.code.entries.items (define_of (λ l. 0)) ∙ entries_are p name g of.code of.is
    by (inr le) = ap length (of.finished le).defines ∙ length-map of.code.entries.items (define_of (of.finished le).marks) ∙ entries_are p name g of.code of.is

wants_are : (p : Placed) (name : List ℕ) (g : ℕ) (m : Module) → IsModuleOf p name g m → length m.wants.items ≤ module_calls p.unit g
wants_are p name g m of =
    subst (λ (v : Vec Want). length v.items ≤ module_calls p.unit g) (sym of.wants) (wants_known p name g of.code of.is).0

-- where a unit has a body, it has a call or an entry
main_calls : (sub same : Bool) (calls : ℕ) → (if not sub && same then 1 else 0) ≤ (if same then suc calls else 0)
main_calls true true calls = omega arith
main_calls true false calls = omega arith
main_calls false true calls = omega arith
main_calls false false calls = omega arith

some_weight : (p : Placed) (g : ℕ) → uses p g ≡ true → 1 ≤ unit_weight_at p.unit g
some_weight p g used =
    let some = ltb-true 0 (marks_before p g) used in
    let weight = module_weight p.unit g in
    let main = main_calls p.unit.subprogram (nat_eq p.unit.tree.segment g) (calls_within (statements p.unit.tree.statements)) in
    omega (arith, some, weight, main)

-- ---- a unit

few_unit : (p : Placed) (taken : List ℕ) (names : List (List ℕ)) (ms : List Module) → AreOfUnit p taken names ms → total ms ≤ 2 * unit_left p.unit taken
few_unit p taken [] _ u.none = omega arith
few_unit p taken (name ∷ names) _ (u.more {g = g} {m = m} {ms = ms} at of rest) =
    let next = next_used p taken (find (numbered 0 p.unit.segments) name) g at in
    let free : is_taken g taken ≡ false = not_taken (is_taken g taken) next.1 in
    let split = split_unit p.unit g taken free in
    let some = some_weight p g next.0 in
    let weight = module_weight p.unit g in
    let defines = defines_are p name g m of in
    let wants = wants_are p name g m of in
    let others = few_unit p (g ∷ taken) names ms rest in
    together (length m.defines.items) (length m.wants.items) (total ms) (length (module_entries p.unit g)) (module_calls p.unit g) (unit_weight_at p.unit g)
    (unit_left p.unit (g ∷ taken)) (unit_left p.unit taken) defines wants others weight some split
  where
    not_taken : (b : Bool) → not b ≡ true → b ≡ false
    not_taken true is = cc
    not_taken false is = refl

    together : (d w t e c weight rest all : ℕ) → d ≡ e → w ≤ c → t ≤ 2 * rest → e + c ≤ weight → 1 ≤ weight → all ≡ weight + rest → 1 + d + w + t ≤ 2 * all
    together d w t e c weight rest all h1 h2 h3 h4 h5 h6 = omega (arith, h1, h2, h3, h4, h5, h6)
few_unit p taken (name ∷ names) ms (u.skip at rest) = few_unit p taken names ms rest

-- ---- units

total_append : (xs ys : List Module) → total (xs ++ ys) ≡ total xs + total ys
total_append [] ys = omega arith
total_append (m ∷ xs) ys = let rest = total_append xs ys in omega (arith, rest)

few_units : (names : List (List ℕ)) (at : Reached) (us : List Source) (ms : List Module) → ((i : ℕ) (s : Source) → slice_get us i ≡ Some s → unit_calls s.tree ≤ most_tokens + 1)
    → AreOf names (placed_units at us) ms → total ms ≤ length us * 524290
few_units names at [] _ few a.none = omega arith
few_units names at (s ∷ us) _ few (a.more {ms = ms} {ns = ns} one others) =
    let here = few 0 s refl in
    let first = left_first s in
    let unit = few_unit (record { at = at; unit = s }) [] names ms one in
    let rest = few_units names (reached_behind s at) us ns (λ i v is. few (suc i) v is) others in
    let sum = total_append ms ns in
    together (total (ms ++ ns)) (total ms) (total ns) (unit_left s []) (unit_calls s.tree) (length us) sum unit first here rest
  where
    together : (all x y left calls n : ℕ) → all ≡ x + y → x ≤ 2 * left → left ≡ calls → calls ≤ most_tokens + 1 → y ≤ n * 524290 → all ≤ suc n * 524290
    together all x y left calls n h1 h2 h3 h4 h5 = omega (arith, h1, h2, h3, h4, h5)

below : (t n : ℕ) → t ≤ n * 524290 → n ≤ 32 → t < 2 ^ 32
below t n le few = omega (arith, le, few)

pub all_few : ModulesAreFew
all_few us ms spelled few are =
    below (total ms) (length us) (few_units (program_uses us) (first_reached us) us ms (λ i s is. few_in_units us i s spelled is) are) few
