-- Bodies begin lawfully.
use Rattle.std.proofs.Common.{ℕ, zero, suc, ◌≡◌, ◌+◌, ◌-◌, ◌<◌, ◌≤◌, Bool, true, false, List, [], ◌∷◌, ◌++◌, length, Option, Some, None, inl, inr, refl, sym, ap, ◌∙◌, arith}
use Rattle.std.specs.Prelude.{◌⊎◌, if◌then◌else◌, nat_eq, nat_lt, is_some, replicate}
use Rattle.std.proofs.lemmas.Bool.{lt-ltb, ltb-true, le-ltb, eqb-true, eq-eqb}
use Rattle.std.proofs.lemmas.List.{length-append, length-replicate}
use Rattle.spl_meaning.specs.hp_word.declared.endings.Trap.TheVariants.{StackOverflow}
use Rattle.spl_meaning.specs.Places.{put, put_cells}
use Rattle.spl_meaning.specs.Pending.{return_words, formals_words, result_words}
use Rattle.spl_meaning.specs.Values.{Callee}
use Rattle.spl_meaning.specs.Statements.{run_body}
use Rattle.spl_meaning.specs.Bodies.{Body, Program}
use Rattle.spl_meaning.specs.States.{Data, State, Outcome, ends, trapped, step_of}
use Rattle.spl_meaning.specs.Runs.{Seat, link_of, locals_of, procedure_framed, cells_set, framed, put_words, zeroed, zeros, called_back, run_statement, enter_procedure, enter_subroutine, opening, global_address}
use Rattle.spl_frames.specs.Frames.{Frame, IsDataWord, Lawful}
use Rattle.spl_frames.specs.Entries.{zeros_put, procedure_frame, subroutine_frame, main_frame, data_zeroed, procedure_entered, subroutine_entered}
use Rattle.spl_frames.specs.Laws.{OpeningsHaveTheirWords, CallsEnter, BodiesBeginLawfully}
use Rattle.spl_frames.proofs.FrameRuns.{HasAll, has_put, has_words, cells_there, initials_there, set_there}

-- ---- what is put is there

put_is : (a v : ℕ) (mem : ℕ → Option ℕ) → is_some (put a v mem a) ≡ true
put_is a v mem = ap (λ (t : Bool). is_some (if t then Some v else mem a)) (eq-eqb a a refl)

words_are : (a : ℕ) (ws : List ℕ) (mem : ℕ → Option ℕ) (b : ℕ) → a ≤ b → b < a + length ws → is_some (put_words a ws mem b) ≡ true
words_are a [] mem b h l = absurd (omega (arith, h, l))
words_are a (w ∷ ws) mem b h l = by (nat_eq a b) refl (λ m. words_are (suc a) ws (put a w mem) b m (omega (arith, l)))
  where
    by : (t : Bool) → nat_eq a b ≡ t → (suc a ≤ b → is_some (put_words (suc a) ws (put a w mem) b) ≡ true)
        → is_some (put_words (suc a) ws (put a w mem) b) ≡ true
    by true e k = has_words (suc a) ws (put a w mem) b (ap (λ (t : Bool). is_some (if t then Some w else mem b)) e)
    by false e k = let no : a ≡ b → ⊥ = λ q. (let yes : nat_eq a b ≡ true = eq-eqb a b q in cc) in k (omega (arith, h, no))

pub has_zeros : (n a : ℕ) (mem : ℕ → Option ℕ) → HasAll mem (zeros_put n a mem)
has_zeros zero a mem b m = m
has_zeros (suc n) a mem b m = has_zeros n (suc a) (put a 0 mem) b (has_put a 0 mem b m)

zeros_are : (n a : ℕ) (mem : ℕ → Option ℕ) (b : ℕ) → a ≤ b → b < a + n → is_some (zeros_put n a mem b) ≡ true
zeros_are zero a mem b h l = absurd (omega (arith, h, l))
zeros_are (suc n) a mem b h l = by (nat_eq a b) refl (λ m. zeros_are n (suc a) (put a 0 mem) b m (omega (arith, l)))
  where
    by : (t : Bool) → nat_eq a b ≡ t → (suc a ≤ b → is_some (zeros_put n (suc a) (put a 0 mem) b) ≡ true)
        → is_some (zeros_put n (suc a) (put a 0 mem) b) ≡ true
    by true e k = has_zeros n (suc a) (put a 0 mem) b (ap (λ (t : Bool). is_some (if t then Some 0 else mem b)) e)
    by false e k = let no : a ≡ b → ⊥ = λ q. (let yes : nat_eq a b ≡ true = eq-eqb a b q in cc) in k (omega (arith, h, no))

-- ---- nothing else is

words_only : (a : ℕ) (ws : List ℕ) (mem : ℕ → Option ℕ) (b : ℕ) → is_some (put_words a ws mem b) ≡ true
    → ((a ≤ b) × (b < a + length ws)) ⊎ (is_some (mem b) ≡ true)
words_only a [] mem b m = inr m
words_only a (w ∷ ws) mem b m = by (words_only (suc a) ws (put a w mem) b m)
  where
    at : (t : Bool) → nat_eq a b ≡ t → is_some (if t then Some w else mem b) ≡ true
        → ((a ≤ b) × (b < a + suc (length ws))) ⊎ (is_some (mem b) ≡ true)
    at true e m = let q : a ≡ b = eqb-true a b e in inl (omega (arith, q), omega (arith, q))
    at false e m = inr m

    by : ((suc a ≤ b) × (b < suc a + length ws)) ⊎ (is_some (put a w mem b) ≡ true)
        → ((a ≤ b) × (b < a + suc (length ws))) ⊎ (is_some (mem b) ≡ true)
    by (inl i) = inl (omega (arith, i.0), omega (arith, i.1))
    by (inr n) = at (nat_eq a b) refl n

zeros_only : (n a : ℕ) (mem : ℕ → Option ℕ) (b : ℕ) → is_some (zeros_put n a mem b) ≡ true
    → ((a ≤ b) × (b < a + n)) ⊎ (is_some (mem b) ≡ true)
zeros_only zero a mem b m = inr m
zeros_only (suc n) a mem b m = by (zeros_only n (suc a) (put a 0 mem) b m)
  where
    at : (t : Bool) → nat_eq a b ≡ t → is_some (if t then Some 0 else mem b) ≡ true → ((a ≤ b) × (b < a + suc n)) ⊎ (is_some (mem b) ≡ true)
    at true e m = let q : a ≡ b = eqb-true a b e in inl (omega (arith, q), omega (arith, q))
    at false e m = inr m

    by : ((suc a ≤ b) × (b < suc a + n)) ⊎ (is_some (put a 0 mem b) ≡ true) → ((a ≤ b) × (b < a + suc n)) ⊎ (is_some (mem b) ≡ true)
    by (inl i) = inl (omega (arith, i.0), omega (arith, i.1))
    by (inr n) = at (nat_eq a b) refl n

-- ---- entering

-- the words of a call's result and parameters
passed_length : (b : Body) (ws : List ℕ) → length ws ≡ formals_words b.profile.formals
    → length (replicate (result_words b.profile) 0 ++ ws) ≡ result_words b.profile + formals_words b.profile.formals
passed_length b ws e =
    length-append (replicate (result_words b.profile) 0) ws
    ∙ ap (λ n. n + length ws) (length-replicate (result_words b.profile) 0) ∙ ap (λ n. result_words b.profile + n) e

-- a frame's cells and initial values leave the data words that are there
begun_there : (now : Data) (k : ℕ) (b : Body) (ws : List ℕ) (a : ℕ)
    → is_some ((procedure_entered now k b ws).mem a) ≡ is_some ((data_zeroed now k b ws).mem a)
begun_there now k b ws a = set_there b (data_zeroed now k b ws) a

-- the words of the call
passed_there : (now : Data) (k : ℕ) (b : Body) (ws : List ℕ) (a : ℕ) → length ws ≡ formals_words b.profile.formals → now.top + k ≤ a
    → a < link_of now.top k b
    → is_some (put_words (now.top + k) (replicate (result_words b.profile) 0 ++ ws) now.mem a) ≡ true
passed_there now k b ws a e l m =
    words_are (now.top + k) (replicate (result_words b.profile) 0 ++ ws) now.mem a l (omega (arith, m, passed_length b ws e))

procedure_lawful : (words : ℕ) (live : Frame) (others : List Frame) (now : Data) (k : ℕ) (b : Body) (ws : List ℕ) → Lawful words live others now
    → length ws ≡ formals_words b.profile.formals → (procedure_frame now.top k b).top + b.depth' ≤ now.stack
    → Lawful words (procedure_frame now.top k b) (live ∷ others) (procedure_entered now k b ws)
procedure_lawful words live others now k b ws h e r = record {
  top = refl;
  base = refl;
  inner = refl;
  words_are_there = there;
  no_others = only;
  room = (r, h.room);
}
  where
    only : (a : ℕ) → is_some ((procedure_entered now k b ws).mem a) ≡ true → IsDataWord words (procedure_frame now.top k b ∷ live ∷ others) a
    only a m =
        by (zeros_only b.words (locals_of now.top k b) (procedure_framed k b ws now).mem a (sym (begun_there now k b ws a) ∙ m))
      where
        passed : ((now.top + k ≤ a) × (a < now.top + k + length (replicate (result_words b.profile) 0 ++ ws))) ⊎ (is_some (now.mem a) ≡ true)
            → IsDataWord words (procedure_frame now.top k b ∷ live ∷ others) a
        passed (inl i) = let l = passed_length b ws e in inl (inl (i.0, omega (arith, i.1, l)))
        passed (inr n) = inr (h.no_others a n)

        by : ((locals_of now.top k b ≤ a) × (a < locals_of now.top k b + b.words)) ⊎ (is_some ((procedure_framed k b ws now).mem a) ≡ true)
            → IsDataWord words (procedure_frame now.top k b ∷ live ∷ others) a
        by (inl i) = inl (inr i)
        by (inr n) = passed (words_only (now.top + k) (replicate (result_words b.profile) 0 ++ ws) now.mem a n)

    there : (a : ℕ) → IsDataWord words (procedure_frame now.top k b ∷ live ∷ others) a
        → (a < (procedure_frame now.top k b).top) × (is_some ((procedure_entered now k b ws).mem a) ≡ true)
    there a (inl (inl i)) = (
      omega (arith, i.1),
      begun_there now k b ws a ∙ (has_zeros b.words (locals_of now.top k b) _ a (passed_there now k b ws a e i.0 i.1)),
    )
    there a (inl (inr i)) = (i.1, begun_there now k b ws a ∙ (zeros_are b.words (locals_of now.top k b) _ a i.0 i.1))
    there a (inr m) =
        let old : (a < now.top) × (is_some (now.mem a) ≡ true) = h.words_are_there a m in (
          omega (arith, old.0),
          begun_there now k b ws a ∙ (has_zeros b.words (locals_of now.top k b) _ a
              (has_words (now.top + k) (replicate (result_words b.profile) 0 ++ ws) now.mem a old.1)),
        )

subroutine_lawful : (words : ℕ) (live : Frame) (others : List Frame) (now : Data) (k : ℕ) (b : Body) (ws : List ℕ) → Lawful words live others now
    → length ws ≡ formals_words b.profile.formals → (subroutine_frame now.base now.top k b).top + b.depth' ≤ now.stack
    → Lawful words (subroutine_frame now.base now.top k b) (live ∷ others) (subroutine_entered now k b ws)
subroutine_lawful words live others now k b ws h e r = record {
  top = refl;
  base = refl;
  inner = refl;
  words_are_there = there;
  no_others = only;
  room = (r, h.room);
}
  where
    only : (a : ℕ) → is_some ((subroutine_entered now k b ws).mem a) ≡ true
        → IsDataWord words (subroutine_frame now.base now.top k b ∷ live ∷ others) a
    only a m = passed (words_only (now.top + k) (replicate (result_words b.profile) 0 ++ ws) now.mem a m)
      where
        passed : ((now.top + k ≤ a) × (a < now.top + k + length (replicate (result_words b.profile) 0 ++ ws))) ⊎ (is_some (now.mem a) ≡ true)
            → IsDataWord words (subroutine_frame now.base now.top k b ∷ live ∷ others) a
        passed (inl i) = let l = passed_length b ws e in inl (inl (i.0, omega (arith, i.1, l)))
        passed (inr n) = inr (h.no_others a n)

    there : (a : ℕ) → IsDataWord words (subroutine_frame now.base now.top k b ∷ live ∷ others) a
        → (a < (subroutine_frame now.base now.top k b).top) × (is_some ((subroutine_entered now k b ws).mem a) ≡ true)
    there a (inl (inl i)) = (omega (arith, i.1), passed_there now k b ws a e i.0 i.1)
    there a (inl (inr i)) = absurd (omega (arith, i.0, i.1))
    there a (inr m) =
        let old : (a < now.top) × (is_some (now.mem a) ≡ true) = h.words_are_there a m in
        (omega (arith, old.0), has_words (now.top + k) (replicate (result_words b.profile) 0 ++ ws) now.mem a old.1)

-- the data words of an opening that are set are those that are zero
opening_there : (p : Program) (seat : Seat) (n a : ℕ) → is_some ((opening p seat n).now.mem a) ≡ is_some (zeros p.words a)
opening_there p seat n a =
    initials_there global_address p.initials (put_cells global_address p.cells (zeros p.words)) a
    ∙ cells_there global_address p.cells (zeros p.words) a

pub openings_have : OpeningsHaveTheirWords
openings_have p seat n a = opening_there p seat n a ∙ by (nat_lt a p.words)
  where
    by : (t : Bool) → is_some {T = ℕ} (if t then Some 0 else None) ≡ t
    by true = refl
    by false = refl

main_lawful : (p : Program) (b : Body) (seat : Seat) (n : ℕ) → (main_frame p b).top + b.depth' ≤ seat.stack
    → Lawful p.words (main_frame p b) [] (opening p seat n).now
main_lawful p b seat n r = record {
  top = refl;
  base = refl;
  inner = refl;
  words_are_there = there;
  no_others = only;
  room = (r, tt);
}
  where
    only : (a : ℕ) → is_some ((opening p seat n).now.mem a) ≡ true → IsDataWord p.words (main_frame p b ∷ []) a
    only a m = inr (by (nat_lt a p.words) refl (sym (opening_there p seat n a) ∙ m))
      where
        by : (t : Bool) → nat_lt a p.words ≡ t → is_some {T = ℕ} (if t then Some 0 else None) ≡ true → a < p.words
        by true e m = ltb-true a p.words e
        by false e m = cc

    zero_there : (a : ℕ) → a < p.words → is_some (zeros p.words a) ≡ true
    zero_there a l = ap (λ (t : Bool). is_some {T = ℕ} (if t then Some 0 else None)) (lt-ltb a p.words l)

    there : (a : ℕ) → IsDataWord p.words (main_frame p b ∷ []) a
        → (a < (main_frame p b).top) × (is_some ((opening p seat n).now.mem a) ≡ true)
    there a (inl (inl i)) = absurd (omega (arith, i.0, i.1))
    there a (inl (inr i)) = absurd (omega (arith, i.0, i.1))
    there a (inr l) = (
      omega (arith, l),
      opening_there p seat n a ∙ zero_there a l,
    )

-- ---- calls run their bodies from there

zeroed_is : (n a : ℕ) (s : State) (go : State → Outcome (List ℕ)) → n ≤ s.left
    → zeroed n a s go ≡ go (record s { now = record s.now { mem = zeros_put n a s.now.mem }; left = s.left - n })
zeroed_is zero a s go l = let e : s.left ≡ s.left - 0 = omega arith in ap (λ (m : ℕ). go (record s { left = m })) e
zeroed_is (suc n) a s go l =
    by s.left refl (λ m h. zeroed_is n (suc a) (record s { now = record s.now { mem = put a 0 s.now.mem }; left = m }) go h)
  where
    by : (left : ℕ) → s.left ≡ left
        → ((m : ℕ) → n ≤ m
        → zeroed n (suc a) (record s { now = record s.now { mem = put a 0 s.now.mem }; left = m }) go
        ≡ go (record s { now = record s.now { mem = zeros_put n (suc a) (put a 0 s.now.mem) }; left = m - n }))
        → step_of left s (λ s1. zeroed n (suc a) (record s1 { now = record s1.now { mem = put a 0 s1.now.mem } }) go)
        ≡ go (record s { now = record s.now { mem = zeros_put n (suc a) (put a 0 s.now.mem) }; left = s.left - suc n })
    by zero e k = absurd (omega (arith, e, l))
    by (suc m) e k =
        let f : m - n ≡ s.left - suc n = omega (arith, e, l) in
        k m (omega (arith, e, l)) ∙ ap (λ (j : ℕ). go (record s { now = record s.now { mem = zeros_put n (suc a) (put a 0 s.now.mem) }; left = j })) f

procedure_enters : (call : Callee) (d : ℕ) (b : Body) (ws : List ℕ) (k : ℕ) (s : State)
    → (procedure_frame s.now.top k b).top + b.depth' ≤ s.now.stack → b.words ≤ s.left
    → enter_procedure call d b ws k s
    ≡ called_back s.now b.profile (s.now.top + k)
    (run_body b.here call d b.number b.statements (record s { now = procedure_entered s.now k b ws; code = None; left = s.left - b.words }))
procedure_enters call d b ws k s r l =
    let s1 = framed (procedure_framed k b ws s.now) s in
    let go : State → Outcome (List ℕ) = λ s1. called_back s.now b.profile (s.now.top + k)
    (run_body b.here call d b.number b.statements (record s1 { now = cells_set b s1.now })) in
    ap (λ (t : Bool). if t then ends (trapped StackOverflow) s else zeroed b.words (locals_of s.now.top k b) s1 go)
    (le-ltb s.now.stack (locals_of s.now.top k b + b.words + b.depth') r)
    ∙ zeroed_is b.words (locals_of s.now.top k b) s1 go l

subroutine_enters : (call : Callee) (d : ℕ) (b : Body) (ws : List ℕ) (k : ℕ) (s : State)
    → (subroutine_frame s.now.base s.now.top k b).top + b.depth' ≤ s.now.stack
    → enter_subroutine call d b ws k s
    ≡ called_back s.now b.profile (s.now.top + k) (run_statement b call d (framed (subroutine_entered s.now k b ws) s))
subroutine_enters call d b ws k s r =
    ap (λ (t : Bool). if t then ends (trapped StackOverflow) s
    else called_back s.now b.profile (s.now.top + k) (run_statement b call d (framed (subroutine_entered s.now k b ws) s)))
    (le-ltb s.now.stack (link_of s.now.top k b + return_words + b.depth') r)

pub calls_enter : CallsEnter
calls_enter call d b ws k s = (procedure_enters call d b ws k s, subroutine_enters call d b ws k s)

pub begin_lawfully : BodiesBeginLawfully
begin_lawfully = (
  λ words live others now k b ws h e. (procedure_lawful words live others now k b ws h e, subroutine_lawful words live others now k b ws h e),
  main_lawful,
)
