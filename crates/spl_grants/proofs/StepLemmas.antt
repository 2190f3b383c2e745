-- One instruction at an entry: no statement starts there, nothing is printed, and the run stays where it is.
use Rattle.std.proofs.Common.{◌≡◌, ℕ, false, ◌+◌, ◌-◌, ◌≤◌, List, [], ◌∷◌, ◌++◌, length, refl, sym, ap, subst, ◌∙◌, arith}
use Rattle.std.specs.Prelude.{None, Err, take, slice_index}
use Rattle.std.proofs.lemmas.List.{length-append}
use Rattle.std.proofs.Math.Seq.{take-length}
use Rattle.spl_body_code.specs.hp_word.declared.endings.Ending.TheVariants.{Running, Trapped}
use Rattle.spl_body_code.specs.hp_word.declared.endings.Trap.{Trap}
use Rattle.spl_values.specs.hp_session.State.{Machine, Outcome as Row, word}
use Rattle.spl_body_code.specs.spl_meaning.States.{State}
use Rattle.spl_values.specs.spl_follow.Spots.{Spot, spot, pos, landed, on, Ground}
use Rattle.spl_values.specs.spl_follow.Leading.{Leads}
use Rattle.spl_values.specs.spl_follow.Matching.{Outer, outer}
use Rattle.spl_values.specs.spl_follow.Following.{Rate, Tally, Goes}
use Rattle.spl_values.specs.spl_follow.Doing.{going}
use Rattle.spl_values.specs.spl_follow.Yielding.{Yields}
use Rattle.spl_values.proofs.spl_follow_proofs.RowLemmas.{no_print}
use Rattle.spl_values.proofs.spl_follow_proofs.WayLemmas.{goes_wider, lead}

-- ---- stacks

-- all words
pub all : (xs : List ℕ) → take (length xs - 0) xs ≡ xs
all xs = let same : length xs - 0 ≡ length xs = omega arith in ap (λ (n : ℕ). take n xs) same ∙ take-length xs

take_front : (xs ys : List ℕ) → take (length xs) (xs ++ ys) ≡ xs
take_front [] ys = refl
take_front (x ∷ xs) ys = ap (λ (zs : List ℕ). x ∷ zs) (take_front xs ys)

at_end : (xs : List ℕ) (v : ℕ) → slice_index (xs ++ v ∷ []) (length xs) ≡ v
at_end [] v = refl
at_end (x ∷ xs) v = at_end xs v

-- the words beneath the top
pub under : (xs : List ℕ) (v : ℕ) → take (length (xs ++ v ∷ []) - 1) (xs ++ v ∷ []) ≡ xs
under xs v =
    let count = length-append xs (v ∷ []) in
    let same : length (xs ++ v ∷ []) - 1 ≡ length xs = omega (arith, count) in
    ap (λ (n : ℕ). take n (xs ++ v ∷ [])) same ∙ take_front xs (v ∷ [])

-- all words, and one on top
pub pushed : (xs : List ℕ) (v : ℕ) → take (length xs - 0) xs ++ v ∷ [] ≡ xs ++ v ∷ []
pushed xs v = ap (λ (ys : List ℕ). ys ++ v ∷ []) (all xs)

-- the top word
pub top : (xs : List ℕ) (v : ℕ) → slice_index (xs ++ v ∷ []) (length (xs ++ v ∷ []) - 1 - 0) ≡ v
top xs v =
    let count = length-append xs (v ∷ []) in
    let same : length (xs ++ v ∷ []) - 1 - 0 ≡ length xs = omega (arith, count) in
    ap (λ (n : ℕ). slice_index (xs ++ v ∷ []) n) same ∙ at_end xs v

-- ---- steps

-- a run of which no more is known than what is counted
abbrev counted : Tally → State
counted t = record {
  now = record {
    mem = λ a. None;
    top = 0;
    base = 0;
    inner = 0;
    extra = [];
    lines = [];
    taken = 0;
    printed = t.printed;
    stack = 0;
    room = 0;
  };
  code = None;
  left = t.left;
  begun = t.begun;
  lost = false;
}

-- a row that goes on
pub step_goes : (g : Ground) (w : Rate) (p r : Spot) (F : Machine → Machine) (t : Tally) (m : Machine) (k : ℕ) (ws : List ℕ) (o : Row) → Leads g (on p) r F
    → F m ≡ going r o m → spot m ≡ p → m.ending ≡ Running → (y : Yields k ws m o) → Goes g w (pos r - pos p) 0 w.reach t m t (landed r y.left)
step_goes g w p r F t m k ws o leads is at runs y =
    lead g w (on p) r F t.begun (counted t) m (landed r y.left) leads at runs refl (is ∙ ap (λ (x : Row). going r x m) y.is)
    (no_print m (landed r y.left) (ap (λ (u : Outer). u.printed) y.same))

-- a row that traps
pub step_traps : (g : Ground) (w : Rate) (p r : Spot) (F : Machine → Machine) (t : Tally) (m : Machine) (o : Row) (x : Trap) → Leads g (on p) r F
    → F m ≡ going r o m → spot m ≡ p → m.ending ≡ Running → o ≡ Err x → Goes g w (pos r - pos p) 0 0 t m t (record m { ending = Trapped x })
step_traps g w p r F t m o x leads is at runs traps =
    let n : Machine = record m { ending = Trapped x } in
    goes_wider g w (pos r - pos p) 0 w.reach (pos r - pos p) 0 0 t m t n
    (lead g w (on p) r F t.begun (counted t) m n leads at runs refl (is ∙ ap (λ (y : Row). going r y m) traps) (no_print m n refl))
    (omega arith) (omega arith)

-- ---- machines

-- the machine at p, with one word more on top
pub record Holds (p : Spot) (m : Machine) (v : ℕ) (n : Machine) : Type 0 where
  pub at : spot n ≡ p
  pub words : n.stack ≡ m.stack ++ v ∷ []
  pub same : outer n ≡ outer m

-- it runs as before
pub holds_runs : (p : Spot) (m : Machine) (v : ℕ) (n : Machine) → Holds p m v n → m.ending ≡ Running → n.ending ≡ Running
holds_runs p m v n h runs = ap (λ (u : Outer). u.ending) h.same ∙ runs

-- its top word is that one
pub holds_top : (p : Spot) (m : Machine) (v : ℕ) (n : Machine) → Holds p m v n → word 0 n ≡ v
holds_top p m v n h = ap (λ (xs : List ℕ). slice_index xs (length xs - 1 - 0)) h.words ∙ top m.stack v

-- and it has one
pub holds_one : (p : Spot) (m : Machine) (v : ℕ) (n : Machine) → Holds p m v n → 1 ≤ length n.stack
holds_one p m v n h = subst (λ (xs : List ℕ). 1 ≤ length xs) (sym h.words) (by m.stack) where
  by : (xs : List ℕ) → 1 ≤ length (xs ++ v ∷ [])
  by [] = omega arith
  by (x ∷ xs) = omega arith

-- a row that pushes a word
pub row_holds : (r : Spot) (m : Machine) (v : ℕ) (o : Row) (y : Yields 0 (v ∷ []) m o) → Holds r m v (landed r y.left)
row_holds r m v o y = record { at = refl; words = y.words ∙ pushed m.stack v; same = y.same }

-- a row that puts a word in place of the one on top
pub row_replaces : (p r : Spot) (m : Machine) (v u : ℕ) (n : Machine) (o : Row) (y : Yields 1 (u ∷ []) n o) → Holds p m v n → Holds r m u (landed r y.left)
row_replaces p r m v u n o y h = record {
  at = refl;
  words = y.words ∙ ap (λ (xs : List ℕ). take (length xs - 1) xs ++ u ∷ []) h.words ∙ ap (λ (xs : List ℕ). xs ++ u ∷ []) (under m.stack v);
  same = y.same ∙ h.same;
}
