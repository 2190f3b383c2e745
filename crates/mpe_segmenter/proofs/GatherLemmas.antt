-- What holds of modules holds of them in their segments.
use Rattle.std.proofs.Common.{◌≡◌, ℕ, suc, ◌+◌, ◌<◌, ◌≤◌, Bool, true, false, nat_lt, List, [], ◌∷◌, ◌++◌, length, refl, sym, ap, ◌∙◌, arith, append_assoc, append-nil}
use Rattle.std.specs.Prelude.{◌||◌, ◌&&◌, if◌then◌else◌}
use Rattle.std.specs.List.{list_any, list_all}
use Rattle.std.proofs.lemmas.Bool.{and_parts, and_from, lt-ltb}
use Rattle.spl_branch.specs.declared.modules.Module.{Module}
use Rattle.mpe_segmenter.specs.Names.{segment_of, Part, parts}
use Rattle.mpe_segmenter.specs.Entered.{total, is_few}
use Rattle.mpe_segmenter.specs.Walks.{with_module}
use Rattle.mpe_segmenter.proofs.PartLemmas.{equal, parts_push}

-- segments with modules put into them one by one
abbrev gathered : List Part → List Module → List Part
gathered ps [] = ps
gathered ps (m ∷ ms) = gathered (with_module ps m) ms

parts_gathered : (ms xs : List Module) → parts (xs ++ ms) ≡ gathered (parts xs) ms
parts_gathered [] xs = ap parts (append-nil xs)
parts_gathered (m ∷ ms) xs =
    ap parts (sym (append_assoc xs (m ∷ []) ms)) ∙ parts_gathered ms (xs ++ m ∷ []) ∙ ap (λ ps. gathered ps ms) (parts_push xs m)

-- a segment has a module that passes, or all of its modules pass
abbrev pub has_one : (Module → Bool) → Part → Bool
has_one P p = list_any P p.modules

abbrev pub has_all : (Module → Bool) → Part → Bool
has_all P p = list_all P p.modules

any_push : (P : Module → Bool) (ms : List Module) (m : Module) → list_any P (ms ++ m ∷ []) ≡ (list_any P ms || P m)
any_push P [] m = by (P m) where
  by : (b : Bool) → (b || false) ≡ (false || b)
  by true = refl
  by false = refl
any_push P (x ∷ ms) m = ap (λ b. P x || b) (any_push P ms m) ∙ by (P x) (list_any P ms) (P m) where
  by : (a b c : Bool) → (a || (b || c)) ≡ ((a || b) || c)
  by true b c = refl
  by false b c = refl

all_push : (P : Module → Bool) (ms : List Module) (m : Module) → list_all P (ms ++ m ∷ []) ≡ (list_all P ms && P m)
all_push P [] m = by (P m) where
  by : (b : Bool) → (b && true) ≡ (true && b)
  by true = refl
  by false = refl
all_push P (x ∷ ms) m = ap (λ b. P x && b) (all_push P ms m) ∙ by (P x) (list_all P ms) (P m) where
  by : (a b c : Bool) → (a && (b && c)) ≡ ((a && b) && c)
  by true b c = refl
  by false b c = refl

or_last : (a b c : Bool) → ((a || c) || b) ≡ ((a || b) || c)
or_last true b c = refl
or_last false true true = refl
or_last false true false = refl
or_last false false true = refl
or_last false false false = refl

and_last : (a b c : Bool) → ((a && c) && b) ≡ ((a && b) && c)
and_last false b c = refl
and_last true true true = refl
and_last true true false = refl
and_last true false true = refl
and_last true false false = refl

any_with : (P : Module → Bool) (ps : List Part) (m : Module) → list_any (has_one P) (with_module ps m) ≡ (list_any (has_one P) ps || P m)
any_with P [] m = by (P m) where
  by : (b : Bool) → ((b || false) || false) ≡ (false || b)
  by true = refl
  by false = refl
any_with P (p ∷ ps) m = by (equal (segment_of m) p.name) (any_with P ps m) where
  assoc : (a b c : Bool) → (a || (b || c)) ≡ ((a || b) || c)
  assoc true b c = refl
  assoc false b c = refl

  by : (b : Bool) → list_any (has_one P) (with_module ps m) ≡ (list_any (has_one P) ps || P m)
      → list_any (has_one P) (if b then record { name = p.name; modules = p.modules ++ m ∷ [] } ∷ ps else p ∷ with_module ps m) ≡ ((list_any P p.modules || list_any (has_one P) ps) || P m)
  by true h = ap (λ b. b || list_any (has_one P) ps) (any_push P p.modules m) ∙ or_last (list_any P p.modules) (list_any (has_one P) ps) (P m)
  by false h = ap (λ b. list_any P p.modules || b) h ∙ assoc (list_any P p.modules) (list_any (has_one P) ps) (P m)

all_with : (P : Module → Bool) (ps : List Part) (m : Module) → list_all (has_all P) (with_module ps m) ≡ (list_all (has_all P) ps && P m)
all_with P [] m = by (P m) where
  by : (b : Bool) → ((b && true) && true) ≡ (true && b)
  by true = refl
  by false = refl
all_with P (p ∷ ps) m = by (equal (segment_of m) p.name) (all_with P ps m) where
  assoc : (a b c : Bool) → (a && (b && c)) ≡ ((a && b) && c)
  assoc true b c = refl
  assoc false b c = refl

  by : (b : Bool) → list_all (has_all P) (with_module ps m) ≡ (list_all (has_all P) ps && P m)
      → list_all (has_all P) (if b then record { name = p.name; modules = p.modules ++ m ∷ [] } ∷ ps else p ∷ with_module ps m) ≡ ((list_all P p.modules && list_all (has_all P) ps) && P m)
  by true h = ap (λ b. b && list_all (has_all P) ps) (all_push P p.modules m) ∙ and_last (list_all P p.modules) (list_all (has_all P) ps) (P m)
  by false h = ap (λ b. list_all P p.modules && b) h ∙ assoc (list_all P p.modules) (list_all (has_all P) ps) (P m)

any_gathered : (P : Module → Bool) (ms : List Module) (ps : List Part) → list_any (has_one P) (gathered ps ms) ≡ (list_any (has_one P) ps || list_any P ms)
any_gathered P [] ps = by (list_any (has_one P) ps) where
  by : (b : Bool) → b ≡ (b || false)
  by true = refl
  by false = refl
any_gathered P (m ∷ ms) ps = any_gathered P ms (with_module ps m) ∙ ap (λ b. b || list_any P ms) (any_with P ps m) ∙ by (list_any (has_one P) ps) (P m) (list_any P ms) where
  by : (a b c : Bool) → ((a || b) || c) ≡ (a || (b || c))
  by true b c = refl
  by false b c = refl

all_gathered : (P : Module → Bool) (ms : List Module) (ps : List Part) → list_all (has_all P) (gathered ps ms) ≡ (list_all (has_all P) ps && list_all P ms)
all_gathered P [] ps = by (list_all (has_all P) ps) where
  by : (b : Bool) → b ≡ (b && true)
  by true = refl
  by false = refl
all_gathered P (m ∷ ms) ps = all_gathered P ms (with_module ps m) ∙ ap (λ b. b && list_all P ms) (all_with P ps m) ∙ by (list_all (has_all P) ps) (P m) (list_all P ms) where
  by : (a b c : Bool) → ((a && b) && c) ≡ (a && (b && c))
  by true b c = refl
  by false b c = refl

-- some module passes where one in some segment does
pub any_in_parts : (P : Module → Bool) (ms : List Module) → list_any (has_one P) (parts ms) ≡ list_any P ms
any_in_parts P ms = ap (list_any (has_one P)) (parts_gathered ms []) ∙ any_gathered P ms []

-- all modules pass where all of each segment do
pub all_in_parts : (P : Module → Bool) (ms : List Module) → list_all (has_all P) (parts ms) ≡ list_all P ms
all_in_parts P ms = ap (list_all (has_all P)) (parts_gathered ms []) ∙ all_gathered P ms []

-- a segment has a module
abbrev pub has_module : Part → Bool
has_module p = nat_lt 0 (length p.modules)

longer : (ms : List Module) (m : Module) → nat_lt 0 (length (ms ++ m ∷ [])) ≡ true
longer [] m = refl
longer (x ∷ ms) m = lt-ltb 0 (suc (length (ms ++ m ∷ []))) (omega arith)

some_with : (ps : List Part) (m : Module) → list_all has_module ps ≡ true → list_all has_module (with_module ps m) ≡ true
some_with [] m h = refl
some_with (p ∷ ps) m h = by (equal (segment_of m) p.name) (and_parts (has_module p) (list_all has_module ps) h) (λ g. some_with ps m g) where
  by : (b : Bool) → (has_module p ≡ true) × (list_all has_module ps ≡ true) → (list_all has_module ps ≡ true → list_all has_module (with_module ps m) ≡ true)
      → list_all has_module (if b then record { name = p.name; modules = p.modules ++ m ∷ [] } ∷ ps else p ∷ with_module ps m) ≡ true
  by true both rest = and_from _ _ (longer p.modules m) both.1
  by false both rest = and_from _ _ both.0 (rest both.1)

some_gathered : (ms : List Module) (ps : List Part) → list_all has_module ps ≡ true → list_all has_module (gathered ps ms) ≡ true
some_gathered [] ps h = h
some_gathered (m ∷ ms) ps h = some_gathered ms (with_module ps m) (some_with ps m h)

pub all_have_modules : (ms : List Module) → list_all has_module (parts ms) ≡ true
all_have_modules ms = ap (list_all has_module) (parts_gathered ms []) ∙ some_gathered ms [] refl

-- how many modules, defines and wants segments have
abbrev totals : List Part → ℕ
totals [] = 0
totals (p ∷ ps) = total p.modules + totals ps

total_append : (xs ys : List Module) → total (xs ++ ys) ≡ total xs + total ys
total_append [] ys = omega arith
total_append (x ∷ xs) ys = omega (arith, total_append xs ys)

totals_with : (ps : List Part) (m : Module) → totals (with_module ps m) ≡ totals ps + total (m ∷ [])
totals_with [] m = omega arith
totals_with (p ∷ ps) m = by (equal (segment_of m) p.name) (totals_with ps m) where
  by : (b : Bool) → totals (with_module ps m) ≡ totals ps + total (m ∷ []) → totals (if b then record { name = p.name; modules = p.modules ++ m ∷ [] } ∷ ps else p ∷ with_module ps m) ≡ (total p.modules + totals ps) + total (m ∷ [])
  by true h = omega (arith, total_append p.modules (m ∷ []))
  by false h = omega (arith, h)

totals_gathered : (ms : List Module) (ps : List Part) → totals (gathered ps ms) ≡ totals ps + total ms
totals_gathered [] ps = omega arith
totals_gathered (m ∷ ms) ps = omega (arith, totals_gathered ms (with_module ps m), totals_with ps m)

few_of : (ps : List Part) → totals ps < 4294967296 → list_all is_few ps ≡ true
few_of [] h = refl
few_of (p ∷ ps) h = and_from _ _ (lt-ltb (total p.modules) 4294967296 (omega (arith, h))) (few_of ps (omega (arith, h)))

pub few_in_parts : (ms : List Module) → total ms < 4294967296 → list_all is_few (parts ms) ≡ true
few_in_parts ms h = few_of (parts ms) (omega (arith, ap totals (parts_gathered ms []), totals_gathered ms [], h))

count_most : (ps : List Part) → list_all has_module ps ≡ true → length ps ≤ totals ps
count_most [] h = omega arith
count_most (p ∷ ps) h = let both = and_parts (has_module p) (list_all has_module ps) h in omega (arith, some_total p.modules both.0, count_most ps both.1) where
  some_total : (ms : List Module) → nat_lt 0 (length ms) ≡ true → 1 ≤ total ms
  some_total [] h = cc
  some_total (m ∷ ms) h = omega arith

-- there are at most as many segments as modules, defines and wants
pub parts_few : (ms : List Module) → length (parts ms) ≤ total ms
parts_few ms = omega (arith, count_most (parts ms) (all_have_modules ms), ap totals (parts_gathered ms []), totals_gathered ms [])
