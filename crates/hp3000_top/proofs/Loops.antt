-- Texts and programs one by one.
use Rattle.std.proofs.Common.{ℕ, zero, suc, ◌≡◌, ◌+◌, ◌<◌, ◌≤◌, List, [], ◌∷◌, ◌++◌, map, length, drop, take, get_or, add-one, Some, Result, Ok, Err, refl, ap, sym, subst, ◌∙◌, arith}
use Rattle.std.specs.Prelude.{slice_get, IfErr, IsErrAnd}
use Rattle.std.proofs.Math.Seq.{take-suc, drop-cons}
use Rattle.std.proofs.lemmas.List.{map_push, take-append-drop, map-append}
use Rattle.hp_program.specs.declared.program.Program.{Program}
use Rattle.job_gen.specs.job_text.declared.job.Text.{Text}
use Rattle.job_gen.specs.job_text.Fits.{Each, ProgramFits, JobFits}
use Rattle.job_gen.specs.job_text.Jobs.{JobValue}
use Rattle.job_gen.specs.job_text.States.{TextValue}
use Rattle.job_gen.specs.job_text.Views.{text_value}
use Rattle.hp3000_top.specs.declared.unmade.Unmade.{Unmade}
use Rattle.hp3000_top.specs.declared.unmade.Unmade.TheVariants as unmade
use Rattle.hp3000_top.specs.Programs.{IsMade, IsRefused, AreMade, FirstRefused}
use Rattle.hp3000_top.specs.Programs as p
use Rattle.hp3000_top.specs.Steps.{RefusedBy, RefusedAmong, IsCopy, AreCopies}
use Rattle.hp3000_top.specs.Steps as s

-- what is said where no program was made is handed on
pub handed : {X : Type 0} (P : Unmade → Type 0) (r : Result X Unmade) (e : Unmade) → IsErrAnd r (λ x. x ≡ e) → P e → IfErr r (λ x. P x)
handed P (Ok x) e h k = tt
handed P (Err x) e h k = subst P (sym h) k

-- ---- lists

taken_more : {X Y : Type 0} (f : X → Y) (xs : List X) (i : ℕ) (x : X) → i < length xs → x ≡ get_or xs i x → map f (take (i + 1) xs) ≡ map f (take i xs) ++ f x ∷ []
taken_more f xs i x l e =
    ap (map f) (rw (add-one i) (take-suc xs i x l)) ∙ ap (λ y. map f (take i xs ++ y ∷ [])) (sym e) ∙ map_push f (take i xs) x

cut_at : {X Y : Type 0} (f : X → Y) (xs : List X) (i : ℕ) (x : X) → i < length xs → x ≡ get_or xs i x
    → map f xs ≡ map f (take i xs) ++ f x ∷ map f (drop (suc i) xs)
cut_at f xs i x l e =
    ap (map f) (sym (take-append-drop i xs) ∙ ap (λ ys. take i xs ++ ys) (drop-cons xs i x l ∙ ap (λ y. y ∷ drop (suc i) xs) (sym e)))
    ∙ map-append f (take i xs) (x ∷ drop (suc i) xs)

pub each_at : {X Y : Type 0} (P : Y → Type 0) (f : X → Y) (xs : List X) (i : ℕ) (x : X) → Each P (map f xs) → i < length xs → x ≡ get_or xs i x → P (f x)
each_at P f [] i x h l e = absurd (omega (arith, l))
each_at P f (y ∷ ys) zero x h l e = subst (λ z. P (f z)) (sym e) h.0
each_at P f (y ∷ ys) (suc i) x h l e = each_at P f ys i x h.1 (omega (arith, l)) e

pub each_slice : {X Y : Type 0} (P : Y → Type 0) (f : X → Y) (xs : List X) (i : ℕ) (x : X) → Each P (map f xs) → slice_get xs i ≡ Some x → P (f x)
each_slice P f [] i x h e = cc
each_slice P f (y ∷ ys) zero x h e = let same : y ≡ x = cc in subst (λ z. P (f z)) same h.0
each_slice P f (y ∷ ys) (suc i) x h e = each_slice P f ys i x h.1 e

each_weaken : {X : Type 0} (P Q : X → Type 0) (xs : List X) → ((x : X) → P x → Q x) → Each P xs → Each Q xs
each_weaken P Q [] f a = tt
each_weaken P Q (x ∷ xs) f a = (f x a.0, each_weaken P Q xs f a.1)

-- what fits in so many bytes fits in more
pub program_fits_more : (m n : ℕ) (t : TextValue) → m ≤ n → ProgramFits m t → ProgramFits n t
program_fits_more m n t l k = record {
  few = k.few;
  short = each_weaken (λ text. length text ≤ m) (λ text. length text ≤ n) t.units (λ x h. omega (arith, h, l)) k.short;
}

pub job_fits_more : (m n : ℕ) (job : JobValue) → m ≤ n → JobFits m job → JobFits n job
job_fits_more m n job l k = record {
  memory = k.memory;
  some_steps = k.some_steps;
  quantum = k.quantum;
  turns = k.turns;
  programs = k.programs;
  each_program = each_weaken (ProgramFits m) (ProgramFits n) job.programs (λ t h. program_fits_more m n t l h) k.each_program;
  sessions = k.sessions;
  each_session = k.each_session;
}

-- ---- programs

made_push : {ts : List TextValue} {ps : List Program} (t : TextValue) (q : Program) → AreMade ts ps → IsMade t.units q → AreMade (ts ++ t ∷ []) (ps ++ q ∷ [])
made_push t q p.AreMade.none m = p.AreMade.more m p.AreMade.none
made_push t q (p.AreMade.more v vs) m = p.AreMade.more v (made_push t q vs m)

refused_next : {ts : List TextValue} {ps : List Program} {line : List ℕ} (t : TextValue) (rest : List TextValue) → AreMade ts ps → IsRefused t line
    → FirstRefused (ts ++ t ∷ rest) line
refused_next t rest p.AreMade.none r = p.FirstRefused.here r
refused_next t rest (p.AreMade.more {p = q} v vs) r = p.FirstRefused.behind q v (refused_next t rest vs r)

pub made_none : (ps : List Program) → ps ≡ [] → AreMade [] ps
made_none ps e = subst (λ (qs : List Program). AreMade [] qs) (sym e) p.AreMade.none

pub made_step : (texts : List Text) (i : ℕ) (t : Text) (xs ys : List Program) (q : Program) → i < length texts → t ≡ get_or texts i t → ys ≡ xs ++ q ∷ []
    → AreMade (map text_value (take i texts)) xs → IsMade (text_value t).units q → AreMade (map text_value (take (i + 1) texts)) ys
made_step texts i t xs ys q l e pushed a m =
    subst (λ ts. AreMade ts ys) (sym (taken_more text_value texts i t l e))
    (subst (λ (zs : List Program). AreMade (map text_value (take i texts) ++ text_value t ∷ []) zs) (sym pushed) (made_push (text_value t) q a m))

pub refused_step : (texts : List Text) (i : ℕ) (t : Text) (xs : List Program) (e : Unmade) → i < length texts → t ≡ get_or texts i t
    → AreMade (map text_value (take i texts)) xs → RefusedBy (text_value t) e → RefusedAmong (map text_value texts) e
refused_step texts i t xs (unmade.Refused line) l e a r =
    subst (λ ts. FirstRefused ts line.items) (sym (cut_at text_value texts i t l e)) (refused_next (text_value t) (map text_value (drop (suc i) texts)) a r)
refused_step texts i t xs unmade.NoMemory l e a r = tt

-- ---- copies

copies_push : {ps qs : List Program} (x y : Program) → AreCopies ps qs → IsCopy x y → AreCopies (ps ++ x ∷ []) (qs ++ y ∷ [])
copies_push x y s.AreCopies.none c = s.AreCopies.more c s.AreCopies.none
copies_push x y (s.AreCopies.more v vs) c = s.AreCopies.more v (copies_push x y vs c)

pub copies_none : (ps : List Program) → ps ≡ [] → AreCopies [] ps
copies_none ps e = subst (λ (qs : List Program). AreCopies [] qs) (sym e) s.AreCopies.none

one_more : (xs : List Program) (i : ℕ) (x : Program) → i < length xs → x ≡ get_or xs i x → take (i + 1) xs ≡ take i xs ++ x ∷ []
one_more xs i x l e = rw (add-one i) (take-suc xs i x l) ∙ ap (λ y. take i xs ++ y ∷ []) (sym e)

pub copies_step : (ps : List Program) (i : ℕ) (x : Program) (xs ys : List Program) (y : Program) → i < length ps → x ≡ get_or ps i x → ys ≡ xs ++ y ∷ []
    → AreCopies (take i ps) xs → IsCopy x y → AreCopies (take (i + 1) ps) ys
copies_step ps i x xs ys y l e pushed a c =
    subst (λ (zs : List Program). AreCopies zs ys) (sym (one_more ps i x l e))
    (subst (λ (zs : List Program). AreCopies (take i ps ++ x ∷ []) zs) (sym pushed) (copies_push x y a c))

pub copies_count : {ps qs : List Program} → AreCopies ps qs → length qs ≡ length ps
copies_count s.AreCopies.none = refl
copies_count (s.AreCopies.more v vs) = ap suc (copies_count vs)
