-- Sessions as they are reported.
use Rattle.std.proofs.Common.{ℕ, zero, suc, ◌≡◌, ◌+◌, ◌<◌, ◌≤◌, List, [], ◌∷◌, ◌++◌, map, length, take, get_or, add-one, refl, sym, ap, subst, ◌∙◌, arith}
use Rattle.std.specs.Prelude.{IfOk, Result, Option, Bool, Vec}
use Rattle.std.specs.Global.{Global}
use Rattle.std.proofs.Math.Seq.{take-suc}
use Rattle.std.proofs.lemmas.List.{map_push, take_all}
use Rattle.std.proofs.lemmas.Option.{slice_get_read}
use Rattle.job_report.specs.hp_word.declared.endings.Ending.{Ending}
use Rattle.job_text.specs.declared.job.Text.{Text}
use Rattle.job_text.specs.Views.{text_value}
use Rattle.job_report.specs.declared.point.Point.{Point}
use Rattle.job_report.specs.Reports.{Reported, reported, report_of, summary_of}
use Rattle.mpe_turns.specs.declared.session.Session.{Session}
use Rattle.mpe_turns.specs.Stands.{run_of, runs_of}
use Rattle.mpe_turns.specs.mpe_worlds.Worlds.{World, segments_at}
use Rattle.job_runs.specs.Reported.{AreOf, names_of, reported_of, counted, report_on, summary_on}

-- the name of a program
pub name_at : (ps : List Text) (i : ℕ) (t : Text) → i < length ps → t ≡ get_or ps i t → get_or (names_of (map text_value ps)) i [] ≡ t.name.text.items
name_at [] i t l e = absurd (omega (arith, l))
name_at (p ∷ ps) zero t l e = ap (λ (x : Text). x.name.text.items) (sym e)
name_at (p ∷ ps) (suc i) t l e = name_at ps i t (omega (arith, l)) e

-- a name and what was printed, by what they are
abbrev pub told : List ℕ → List ℕ → Ending → ℕ → ℕ → ℕ → Reported
told name printed ending steps fills spills = record { name = name; printed = printed; ending = ending; steps = steps; fills = fills; spills = spills }

pub same_reported : (n m p q : List ℕ) (e : Ending) (s f g : ℕ) → n ≡ m → p ≡ q → told n p e s f g ≡ told m q e s f g
same_reported n m p q e s f g a b = ap (λ x. told x p e s f g) a ∙ ap (λ x. told m x e s f g) b

-- ---- one by one

pub of_one : (n : ℕ) (ss : List Session) (i : ℕ) (s : Session) → i < length ss → s ≡ get_or ss i s → AreOf n ss → s.program < n
of_one n ss i s l e h = h i s (slice_get_read ss (length ss) i s refl l e)

pub points_none : (names : List (List ℕ)) (codes : List (List (List ℕ))) (xs : List Point) → xs ≡ [] → map reported xs ≡ map (reported_of names) (runs_of codes [])
points_none names codes xs e = ap (map reported) e

pub points_step : (names : List (List ℕ)) (codes : List (List (List ℕ))) (ss : List Session) (i : ℕ) (s : Session) (xs ys : List Point) (p : Point) → i < length ss
    → s ≡ get_or ss i s → ys ≡ xs ++ p ∷ [] → reported p ≡ reported_of names (run_of (segments_at codes s.program) s)
    → map reported xs ≡ map (reported_of names) (runs_of codes (take i ss)) → map reported ys ≡ map (reported_of names) (runs_of codes (take (i + 1) ss))
points_step names codes ss i s xs ys p l e pushed one so_far =
    let f = λ (x : Session). run_of (segments_at codes x.program) x in
    ap (map reported) pushed ∙ map_push reported xs p
    ∙ ap (λ rs. rs ++ reported p ∷ []) so_far ∙ ap (λ r. map (reported_of names) (runs_of codes (take i ss)) ++ r ∷ []) one
    ∙ sym (ap (λ xs. map (reported_of names) (map f xs)) (rw (add-one i) (take-suc ss i s l) ∙ ap (λ y. take i ss ++ y ∷ []) (sym e))
    ∙ ap (map (reported_of names)) (map_push f (take i ss) s) ∙ map_push (reported_of names) (map f (take i ss)) (f s))

pub points_all : (names : List (List ℕ)) (codes : List (List (List ℕ))) (ss : List Session) (i : ℕ) (xs : List Point) → length ss ≤ i
    → map reported xs ≡ map (reported_of names) (runs_of codes (take i ss)) → map reported xs ≡ map (reported_of names) (runs_of codes ss)
points_all names codes ss i xs l e = e ∙ ap (λ ys. map (reported_of names) (runs_of codes ys)) (take_all i ss l)

-- a report of equal points and counts
pub report_so : {E : Type 0} (names : List (List ℕ)) (stats : Bool) (w : World) (r : Result (Vec ℕ Global) E) (points : List Reported) (counts : Option (ℕ × ℕ))
    → points ≡ map (reported_of names) w.runs → counts ≡ counted stats w → IfOk r (λ t. t.items ≡ report_of points counts)
    → IfOk r (λ t. t.items ≡ report_on names stats w)
unfolding report_on
report_so names stats w r points counts a b h =
    subst (λ cs. IfOk r (λ t. t.items ≡ report_of (map (reported_of names) w.runs) cs)) b (subst (λ ps. IfOk r (λ t. t.items ≡ report_of ps counts)) a h)

-- a summary of equal points
pub summary_so : {E : Type 0} (n bytes : ℕ) (names : List (List ℕ)) (w : World) (r : Result (Vec ℕ Global) E) (points : List Reported)
    → points ≡ map (reported_of names) w.runs → IfOk r (λ t. t.items ≡ summary_of n bytes points) → IfOk r (λ t. t.items ≡ summary_on n bytes names w)
unfolding summary_on
summary_so n bytes names w r points a h = subst (λ ps. IfOk r (λ t. t.items ≡ summary_of n bytes ps)) a h
