-- Parts that want nothing but what passes, put together; and calls that pass.
use Rattle.std.proofs.Common.{◌≡◌, ℕ, suc, ◌+◌, Bool, true, false, if◌then◌else◌, List, [], ◌∷◌, ◌++◌, is_some, position, Option, Some, None, refl, sym, ◌∙◌}
use Rattle.std.specs.List.{list_all}
use Rattle.std.proofs.lemmas.Bool.{and_parts, and_from}
use Rattle.std.proofs.lemmas.List.Folds.{list_all-append}
use Rattle.spl_module_code.specs.spl_branch.declared.pieces.Piece.{Piece}
use Rattle.spl_module_code.specs.spl_meaning.Names.{Names}
use Rattle.spl_module_code.specs.spl_code.Parts.{Part, Wanted, is_wanted, pieces, ◌⨟◌, with_fresh, call_wanted}
use Rattle.spl_called_names.specs.Called.{Testing, call_passes, calls_pass, IsPassing}

-- ---- parts

pub passing_pieces : {t : Testing} (ps : List Piece) → IsPassing t (pieces ps)
passing_pieces {t} ps = record { passes = λ l ws h. h }

pub passing_then : {t : Testing} {p q : Part} → IsPassing t p → IsPassing t q → IsPassing t (p ⨟ q)
passing_then {t} {p} {q} a b = record { passes = λ l ws h. b.passes (l + (p l ws).marks) (p l ws).wants (a.passes l ws h) }

pub passing_behind : {t : Testing} {p : Part} (ps : List Piece) → IsPassing t p → IsPassing t (p ⨟ pieces ps)
passing_behind {t} {p} ps a = record { passes = a.passes }

pub passing_before : {t : Testing} {q : Part} (ps : List Piece) → IsPassing t q → IsPassing t (pieces ps ⨟ q)
passing_before {t} {q} ps a = record { passes = λ l ws h. a.passes (l + 0) ws h }

pub passing_fresh : {t : Testing} (f : ℕ → Part) → ((x : ℕ) → IsPassing t (f x)) → IsPassing t (with_fresh f)
passing_fresh f h = record { passes = λ l ws g. (h l).passes (suc l) ws g }

pub passing_if : {t : Testing} (b : Bool) (p q : Part) → IsPassing t p → IsPassing t q → IsPassing t (if b then p else q)
passing_if true p q a b = a
passing_if false p q a b = b

-- a name of another module, or of the system
pub passing_want : (t : Testing) (x : List ℕ) (gate : Bool) → t (record { name = x; gate = gate }) ≡ true → IsPassing t (call_wanted x gate)
passing_want t x gate one = record { passes = λ l ws h. by ws (position (is_wanted x gate) ws) h }
  where
    by : (ws : List Wanted) (o : Option ℕ) → list_all t ws ≡ true → list_all t (if is_some o then ws else ws ++ record { name = x; gate = gate } ∷ []) ≡ true
    by ws (Some i) h = h
    by ws None h =
        list_all-append t ws (record { name = x; gate = gate } ∷ [])
        ∙ and_from (list_all t ws) (list_all t (record { name = x; gate = gate } ∷ [])) h (and_from (t (record { name = x; gate = gate })) true one refl)

-- ---- calls

-- calls of these names pass
pub record Pass (test : Testing) (names : Names) (xs : List (List ℕ)) : Type 0 where
  pub all : calls_pass test names xs ≡ true

both_pass : (t : Testing) (names : Names) (xs ys : List (List ℕ)) → Pass t names (xs ++ ys) → (calls_pass t names xs ≡ true) × (calls_pass t names ys ≡ true)
both_pass t names xs ys h =
    and_parts (calls_pass t names xs) (calls_pass t names ys) (sym (list_all-append (λ (x : List ℕ). call_passes t (names x) x) xs ys) ∙ h.all)

pub first_pass : {t : Testing} {names : Names} (xs ys : List (List ℕ)) → Pass t names (xs ++ ys) → Pass t names xs
first_pass {t} {names} xs ys h = record { all = (both_pass t names xs ys h).0 }

pub last_pass : {t : Testing} {names : Names} (xs ys : List (List ℕ)) → Pass t names (xs ++ ys) → Pass t names ys
last_pass {t} {names} xs ys h = record { all = (both_pass t names xs ys h).1 }

pub one_passes : {t : Testing} {names : Names} (x : List ℕ) → Pass t names (x ∷ []) → call_passes t (names x) x ≡ true
one_passes {t} {names} x h = (and_parts (call_passes t (names x) x) true h.all).0
