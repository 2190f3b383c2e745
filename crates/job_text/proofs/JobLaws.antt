-- The laws of job texts: what is read of a text is what it is, and a text is one thing.
use Rattle.std.proofs.Common.{◌≡◌, ℕ, ◌+◌, Bool, List, [], ◌∷◌, ◌++◌, length, Option, None, Some, ◌⊎◌, inl, inr, refl, sym, ap, subst, ◌∙◌, arith, append_assoc, append-nil}
use Rattle.std.specs.Prelude.{Result, Ok, Err}
use Rattle.job_lines.specs.Lines.{lines}
use Rattle.job_lines.specs.Says.{end_of_text, said_at}
use Rattle.job_text.specs.States.{State, start, after, after_all}
use Rattle.job_text.specs.Rules.{broken}
use Rattle.job_text.specs.Jobs.{JobValue, job_of, broken_at, broken_at_end, AreKept, JobIs, JobBreaks, at_line, at_end}
use Rattle.job_text.specs.Verdicts.{Fault, going_on, verdict_from, with_job, verdict}
use Rattle.job_text.specs.Laws.{TextsAreRead, JobsBreakNothing, JobsAreUnique, FaultsAreUnique}

-- ---- lines behind others

-- the state behind one line more
after_more : (before : List (List ℕ)) (line : List ℕ) (s : State)
    → after_all (before ++ line ∷ []) s ≡ after (said_at (after_all before s).place line) (after_all before s)
unfolding after_all
after_more [] line s = refl
after_more (l ∷ ls) line s = after_more ls line (after (said_at s.place l) s)

-- these lines keep the rules, behind others
abbrev AreKeptBehind : Bool → List (List ℕ) → List (List ℕ) → Type 0
AreKeptBehind prep before [] = Unit {0}
AreKeptBehind prep before (l ∷ ls) = (broken_at prep before l ≡ None) × AreKeptBehind prep (before ++ l ∷ []) ls

one_more : (before front : List (List ℕ)) (l : List ℕ) → (before ++ l ∷ []) ++ front ≡ before ++ l ∷ front
one_more before front l = append_assoc before (l ∷ []) front

-- so each of them does
each_kept : (prep : Bool) (before ls front : List (List ℕ)) (line : List ℕ) (behind : List (List ℕ)) → AreKeptBehind prep before ls → ls ≡ front ++ line ∷ behind
    → broken_at prep (before ++ front) line ≡ None
each_kept prep before [] [] line behind k e = cc
each_kept prep before [] (x ∷ front) line behind k e = cc
each_kept prep before (l ∷ ls) [] line behind k e =
    let same : l ≡ line = cc in
    subst (λ (b : List (List ℕ)). broken_at prep b line ≡ None) (sym (append-nil before)) (subst (λ (x : List ℕ). broken_at prep before x ≡ None) same k.0)
each_kept prep before (l ∷ ls) (x ∷ front) line behind k e =
    let same : l ≡ x = cc in
    let rest : ls ≡ front ++ line ∷ behind = cc in
    subst (λ (b : List (List ℕ)). broken_at prep b line ≡ None) (one_more before front x)
    (each_kept prep (before ++ x ∷ []) ls front line behind (subst (λ (y : List ℕ). AreKeptBehind prep (before ++ y ∷ []) ls) same k.1) rest)

all_kept : (prep : Bool) (ls : List (List ℕ)) → AreKeptBehind prep [] ls → AreKept prep ls
all_kept prep ls k before line behind e = each_kept prep [] ls before line behind k e

-- ---- what is read

-- what is known behind lines where a job is read
record Whole (prep : Bool) (before ls : List (List ℕ)) (t : State) : Type 0 where
  kept : AreKeptBehind prep before ls
  ended : broken_at_end prep (before ++ ls) ≡ None
  state : t ≡ after_all (before ++ ls) start

going_ok : {A : Type 0} (n : ℕ) (o : Option ℕ) (rest : Result A Fault) (t : A) → going_on n o rest ≡ Ok t → (o ≡ None) × (rest ≡ Ok t)
going_ok n None rest t e = (refl, e)
going_ok n (Some r) rest t e = cc

read_whole : (prep : Bool) (ls before : List (List ℕ)) (n : ℕ) (s t : State) → s ≡ after_all before start → verdict_from prep n ls s ≡ Ok t → Whole prep before ls t
unfolding verdict_from
read_whole prep [] before n s t at e =
    let g = going_ok n (broken prep s end_of_text) (Ok s) t e in
    let same : s ≡ t = cc (g.1) in
    record {
      kept = tt;
      ended = subst (λ (b : List (List ℕ)). broken_at_end prep b ≡ None) (sym (append-nil before)) (subst (λ (x : State). broken prep x end_of_text ≡ None) at g.0);
      state = sym same ∙ at ∙ ap (λ b. after_all b start) (sym (append-nil before));
    }
read_whole prep (l ∷ ls) before n s t at e =
    let g = going_ok n (broken prep s (said_at s.place l)) (verdict_from prep (n + 1) ls (after (said_at s.place l) s)) t e in
    let next : after (said_at s.place l) s ≡ after_all (before ++ l ∷ []) start = ap (λ (x : State). after (said_at x.place l) x) at ∙ sym (after_more before l start) in
    let w = read_whole prep ls (before ++ l ∷ []) (n + 1) (after (said_at s.place l) s) t next g.1 in
    record {
      kept = (subst (λ (x : State). broken prep x (said_at x.place l) ≡ None) at g.0, w.kept);
      ended = subst (λ (b : List (List ℕ)). broken_at_end prep b ≡ None) (one_more before ls l) w.ended;
      state = w.state ∙ ap (λ b. after_all b start) (one_more before ls l);
    }

-- what is known where a fault is read: it is at one of the lines, or at their end
data Found (prep : Bool) (before ls : List (List ℕ)) (n : ℕ) (f : Fault) : Type 0 where
  found : (front : List (List ℕ)) (line : List ℕ) (behind : List (List ℕ)) → ls ≡ front ++ line ∷ behind → f.line ≡ n + length front
      → AreKeptBehind prep before front → broken_at prep (before ++ front) line ≡ Some f.rule → Found prep before ls n f
  missed : f.line ≡ n + length ls → AreKeptBehind prep before ls → broken_at_end prep (before ++ ls) ≡ Some f.rule → Found prep before ls n f

going_wrong : {A : Type 0} (n : ℕ) (o : Option ℕ) (rest : Result A Fault) (f : Fault) → going_on n o rest ≡ Err f
    → ((o ≡ Some f.rule) × (f.line ≡ n)) ⊎ ((o ≡ None) × (rest ≡ Err f))
going_wrong n None rest f e = inr (refl, e)
going_wrong n (Some r) rest f e = let same : record { line = n; rule = r } ≡ f = cc in inl (ap (λ (x : Fault). Some x.rule) same, sym (ap (λ (x : Fault). x.line) same))

-- a fault behind one line more
found_more : (prep : Bool) (before ls : List (List ℕ)) (n : ℕ) (f : Fault) (l : List ℕ) → broken_at prep before l ≡ None
    → Found prep (before ++ l ∷ []) ls (n + 1) f → Found prep before (l ∷ ls) n f
found_more prep before ls n f l k (found front line behind e num kept b) =
    found (l ∷ front) line behind (ap (λ x. l ∷ x) e) (omega (arith, num)) (k, kept)
    (subst (λ (x : List (List ℕ)). broken_at prep x line ≡ Some f.rule) (one_more before front l) b)
found_more prep before ls n f l k (missed num kept b) =
    missed (omega (arith, num)) (k, kept) (subst (λ (x : List (List ℕ)). broken_at_end prep x ≡ Some f.rule) (one_more before ls l) b)

read_fault : (prep : Bool) (ls before : List (List ℕ)) (n : ℕ) (s : State) (f : Fault) → s ≡ after_all before start → verdict_from prep n ls s ≡ Err f
    → Found prep before ls n f
unfolding verdict_from
read_fault prep [] before n s f at e =
    elim (going_wrong n (broken prep s end_of_text) (Ok s) f e) [
      | inl w ↦ missed (omega (arith, w.1)) tt
          (subst (λ (b : List (List ℕ)). broken_at_end prep b ≡ Some f.rule) (sym (append-nil before)) (subst (λ (x : State). broken prep x end_of_text ≡ Some f.rule) at w.0))
      | inr w ↦ cc (w.1)
    ]
read_fault prep (l ∷ ls) before n s f at e =
    let next : after (said_at s.place l) s ≡ after_all (before ++ l ∷ []) start = ap (λ (x : State). after (said_at x.place l) x) at ∙ sym (after_more before l start) in
    elim (going_wrong n (broken prep s (said_at s.place l)) (verdict_from prep (n + 1) ls (after (said_at s.place l) s)) f e) [
      | inl w ↦ found [] l ls refl (omega (arith, w.1)) tt
          (subst (λ (b : List (List ℕ)). broken_at prep b l ≡ Some f.rule) (sym (append-nil before)) (subst (λ (x : State). broken prep x (said_at x.place l) ≡ Some f.rule) at w.0))
      | inr w ↦ found_more prep before ls n f l (subst (λ (x : State). broken prep x (said_at x.place l) ≡ None) at w.0)
          (read_fault prep ls (before ++ l ∷ []) (n + 1) (after (said_at s.place l) s) f next w.1)
    ]

-- a job that is read is one
no_lines : start ≡ after_all [] start
unfolding after_all
no_lines = refl

job_from : (bytes : List ℕ) (prep : Bool) (r : Result State Fault) (job : JobValue) → verdict_from prep 1 (lines bytes) start ≡ r → with_job r ≡ Ok job
    → JobIs bytes prep job
job_from bytes prep (Ok t) job e h =
    let w = read_whole prep (lines bytes) [] 1 start t no_lines e in
    let same : job_of t ≡ job = cc in
    record { kept = all_kept prep (lines bytes) w.kept; whole = w.ended; says = sym same ∙ ap job_of w.state }
job_from bytes prep (Err f) job e h = cc

pub job_is : (bytes : List ℕ) (prep : Bool) (job : JobValue) → verdict prep bytes ≡ Ok job → JobIs bytes prep job
unfolding verdict
job_is bytes prep job e = job_from bytes prep (verdict_from prep 1 (lines bytes) start) job refl e

-- and a fault that is read is the first
breaks_from : (bytes : List ℕ) (prep : Bool) (f : Fault) → Found prep [] (lines bytes) 1 f → JobBreaks bytes prep f.line f.rule
breaks_from bytes prep f (found front line behind e num kept b) = at_line front line behind e (omega (arith, num)) (all_kept prep front kept) b
breaks_from bytes prep f (missed num kept b) = at_end (omega (arith, num)) (all_kept prep (lines bytes) kept) b

fault_from : (bytes : List ℕ) (prep : Bool) (r : Result State Fault) (f : Fault) → verdict_from prep 1 (lines bytes) start ≡ r → with_job r ≡ Err f
    → JobBreaks bytes prep f.line f.rule
fault_from bytes prep (Ok t) f e h = cc
fault_from bytes prep (Err g) f e h =
    let same : g ≡ f = cc in breaks_from bytes prep f (read_fault prep (lines bytes) [] 1 start f no_lines (e ∙ ap Err same))

pub job_breaks : (bytes : List ℕ) (prep : Bool) (f : Fault) → verdict prep bytes ≡ Err f → JobBreaks bytes prep f.line f.rule
unfolding verdict
job_breaks bytes prep f e = fault_from bytes prep (verdict_from prep 1 (lines bytes) start) f refl e

-- ---- the laws

pub texts_are_read : TextsAreRead
texts_are_read bytes prep = by (verdict prep bytes) refl where
  by : (r : Result JobValue Fault) → verdict prep bytes ≡ r → ((job : JobValue) × JobIs bytes prep job) ⊎ ((line : ℕ) × (rule : ℕ) × JobBreaks bytes prep line rule)
  by (Ok job) e = inl (job, job_is bytes prep job e)
  by (Err f) e = inr (f.line, f.rule, job_breaks bytes prep f e)

pub jobs_break_nothing : JobsBreakNothing
jobs_break_nothing bytes prep job line rule is (at_line before l behind split num kept b) = let k = is.kept before l behind split in cc
jobs_break_nothing bytes prep job line rule is (at_end num kept b) = let w = is.whole in cc

pub jobs_are_unique : JobsAreUnique
jobs_are_unique bytes prep a b p q = p.says ∙ sym q.says

-- two places in a list: one is before the other, or they are the same
data Apart {A : Type 0} (b c : List A) (x y : A) : Type 0 where
  earlier : (between : List A) → c ≡ b ++ x ∷ between → Apart b c x y
  later : (between : List A) → b ≡ c ++ y ∷ between → Apart b c x y
  together : b ≡ c → x ≡ y → Apart b c x y

further : {A : Type 0} (b c : List A) (x y z : A) → Apart b c x y → Apart (z ∷ b) (z ∷ c) x y
further b c x y z (earlier m e) = earlier m (ap (λ l. z ∷ l) e)
further b c x y z (later m e) = later m (ap (λ l. z ∷ l) e)
further b c x y z (together e f) = together (ap (λ l. z ∷ l) e) f

apart : {A : Type 0} (b c d e : List A) (x y : A) → b ++ x ∷ d ≡ c ++ y ∷ e → Apart b c x y
apart [] [] d e x y h = together refl cc
apart [] (z ∷ c) d e x y h = let same : z ≡ x = cc in earlier c (ap (λ w. w ∷ c) same)
apart (z ∷ b) [] d e x y h = let same : z ≡ y = cc in later b (ap (λ w. w ∷ b) same)
apart (z ∷ b) (w ∷ c) d e x y h =
    let same : z ≡ w = cc in
    let rest : b ++ x ∷ d ≡ c ++ y ∷ e = cc in
    subst (λ v. Apart (z ∷ b) (v ∷ c) x y) same (further b c x y z (apart b c d e x y rest))

pub faults_are_unique : FaultsAreUnique
faults_are_unique bytes prep l r m q (at_line b x d e num kept k) (at_line c y f g num' kept' k') =
    elim (apart b c d f x y (sym e ∙ g)) [
      | earlier between s ↦ let none = kept' b x between s in cc
      | later between s ↦ let none = kept c y between s in cc
      | together s t ↦
          let same : broken_at prep b x ≡ broken_at prep c y = subst (λ z. broken_at prep b x ≡ broken_at prep z y) s (ap (broken_at prep b) t) in
          (omega (arith, num, num', ap length s), cc)
    ]
faults_are_unique bytes prep l r m q (at_line b x d e num kept k) (at_end num' kept' k') = let none = kept' b x d e in cc
faults_are_unique bytes prep l r m q (at_end num kept k) (at_line c y f g num' kept' k') = let none = kept c y f g in cc
faults_are_unique bytes prep l r m q (at_end num kept k) (at_end num' kept' k') = (num ∙ sym num', cc)
