-- Calls are never lost, one within another, and programs are not.
use Rattle.std.proofs.Common.{◌≡◌, ◌⊎◌, inl, inr, ℕ, zero, suc, ◌+◌, Bool, true, false, List, [], Option, Some, None, is_some, refl, sym, ap, subst, ◌∙◌}
use Rattle.std.specs.Prelude.{nat_lt, length}
use Rattle.spl_frames.specs.Sizes.{IsDone, CallsFit, ValuesHaveTheirWords}
use Rattle.spl_safe_statements.specs.spl_meaning.hp_word.declared.endings.Trap.TheVariants.{StackOverflow}
use Rattle.spl_safe_statements.specs.spl_meaning.Bodies.{Body, Named, subroutine_body, body_named}
use Rattle.spl_safe_statements.specs.spl_meaning.Names as n
use Rattle.spl_safe_statements.specs.spl_meaning.Names.{Sort, Profile}
use Rattle.spl_safe_statements.specs.spl_meaning.Pending.{result_words}
use Rattle.spl_safe_statements.specs.spl_meaning.Runs.{calls, call_procedure, call_subroutine, returned, run_main, run_program, opening, lost_of, run_statement}
use Rattle.spl_safe_statements.specs.spl_meaning.States.{State, Outcome, done, leaves, spent, ends, strays, terminated, trapped}
use Rattle.spl_safe_statements.specs.spl_meaning.Tables.{Subroutine, subroutine_named}
use Rattle.spl_safe_statements.specs.spl_meaning.Values.{Who, procedure, subroutine, Callee, a_call, sense_of}
use Rattle.spl_safe_statements.specs.Safe.{Comes, Keeps, Any, NoWay, Ways}
use Rattle.spl_safe_statements.proofs.Keeping.{never, keeps_ends, keeps_spent, keeps_go, keeps_step, keeps_if}
use Rattle.spl_safe_calls.specs.Calls.{CallsAreSafe, IsReady, body_done, FrameIsReady, AreReady}
use Rattle.spl_safe_calls.specs.Laws.{CallsAreNeverLostWhere, ProgramsAreNeverLostWhere}
use Rattle.spl_safe_calls.proofs.Entering.{comes_returned, keeps_procedure, keeps_subroutine}

-- ---- whom a name calls

-- a procedure or a subroutine of that name
abbrev Called : List ℕ → Option Sort → Who → Profile → Type 0
Called x o who p = ((o ≡ Some (n.procedure p)) × (who ≡ procedure x)) ⊎ ((o ≡ Some (n.subroutine p)) × (who ≡ subroutine x))

called_is : (x : List ℕ) (o : Option Sort) (who : Who) (p : Profile) → sense_of x o ≡ a_call who p → Called x o who p
called_is x (Some (n.procedure q)) who p e = let r : q ≡ p = cc in let w : procedure x ≡ who = cc in inl (ap (λ (y : Profile). Some (n.procedure y)) r, sym w)
called_is x (Some (n.subroutine q)) who p e = let r : q ≡ p = cc in let w : subroutine x ≡ who = cc in inr (ap (λ (y : Profile). Some (n.subroutine y)) r, sym w)
called_is x (Some (n.equate v)) who p e = cc
called_is x (Some (n.intrinsic g)) who p e = cc
called_is x (Some (n.simple l own)) who p e = cc
called_is x (Some (n.array l own low high)) who p e = cc
called_is x (Some (n.view l own base)) who p e = cc
called_is x (Some (n.pointer l own)) who p e = cc
called_is x (Some (n.value l)) who p e = cc
called_is x (Some (n.by_reference l)) who p e = cc
called_is x (Some (n.array_parameter l)) who p e = cc
called_is x (Some n.label) who p e = cc
called_is x (Some n.unknown) who p e = cc
called_is x None who p e = cc

-- what is there
the_some : {A : Type 0} (o : Option A) → is_some o ≡ true → (a : A) × (o ≡ Some a)
the_some None e = never e
the_some (Some a) e = (a, refl)

-- ---- results

any_done : {P : List ℕ → Type 0} (o : Outcome (List ℕ)) → ((vs : List ℕ) → P vs) → IsDone P o
any_done (done a s) all = all a
any_done (leaves x s) all = tt
any_done (spent s) all = tt
any_done (ends e s) all = tt
any_done (strays s) all = tt

-- a call of what is not there gives nothing
nothing_procedure : (P : List ℕ → Type 0) (procedures : List Named) (d : ℕ) (b : Body) (x : List ℕ) (ws : List ℕ) (k : ℕ) (s : State) → body_named procedures x ≡ None
    → IsDone P (calls procedures d b (procedure x) ws k s)
nothing_procedure P procedures zero b x ws k s none = tt
nothing_procedure P procedures (suc d) b x ws k s none =
    subst (λ (o : Option Body). IsDone P (call_procedure o (λ c. calls procedures d c) d ws k s)) (sym none) tt

nothing_subroutine : (P : List ℕ → Type 0) (procedures : List Named) (d : ℕ) (b : Body) (x : List ℕ) (ws : List ℕ) (k : ℕ) (s : State)
    → subroutine_named b.subroutines x ≡ None → IsDone P (calls procedures d b (subroutine x) ws k s)
nothing_subroutine P procedures zero b x ws k s none = tt
nothing_subroutine P procedures (suc d) b x ws k s none =
    subst (λ (o : Option Subroutine). IsDone P (call_subroutine o b (calls procedures d b) d ws k s)) (sym none) tt

module _ (sizes : ValuesHaveTheirWords) (Known : List ℕ → Type 0) (procedures : List Named) where
  -- as many words as the heading says
  fits : (may : Who → Bool) (frame b : Body) (what : Callee → ℕ → State → Outcome (Unit {0})) → IsReady Known procedures may frame b what → (d : ℕ)
      → CallsFit b.here.names (calls procedures d frame)
  fits may frame b what r d x who p e ws k s = by (called_is x (b.here.names x) who p e)
    where
      of_procedure : (o : Option Body) → body_named procedures x ≡ o → b.here.names x ≡ Some (n.procedure p)
          → IsDone (λ vs. length vs ≡ result_words p) (calls procedures d frame (procedure x) ws k s)
      of_procedure None is named = nothing_procedure (λ vs. length vs ≡ result_words p) procedures d frame x ws k s is
      of_procedure (Some c) is named =
          subst (λ (m : ℕ). IsDone (λ vs. length vs ≡ m) (calls procedures d frame (procedure x) ws k s)) (r.alike x p named c is)
          (sizes.procedures procedures d frame c x ws k s is)

      of_subroutine : (o : Option Subroutine) → subroutine_named frame.subroutines x ≡ o → b.here.names x ≡ Some (n.subroutine p)
          → IsDone (λ vs. length vs ≡ result_words p) (calls procedures d frame (subroutine x) ws k s)
      of_subroutine None is named = nothing_subroutine (λ vs. length vs ≡ result_words p) procedures d frame x ws k s is
      of_subroutine (Some z) is named =
          subst (λ (m : ℕ). IsDone (λ vs. length vs ≡ m) (calls procedures d frame (subroutine x) ws k s)) (r.alike_inner x p named z is)
          (sizes.subroutines procedures d frame z x ws k s is)

      by : Called x (b.here.names x) who p → IsDone (λ vs. length vs ≡ result_words p) (calls procedures d frame who ws k s)
      by (inl both) =
          subst (λ (w : Who). IsDone (λ vs. length vs ≡ result_words p) (calls procedures d frame w ws k s)) (sym both.1)
          (of_procedure (body_named procedures x) refl both.0)
      by (inr both) =
          subst (λ (w : Who). IsDone (λ vs. length vs ≡ result_words p) (calls procedures d frame w ws k s)) (sym both.1)
          (of_subroutine (subroutine_named frame.subroutines x) refl both.0)

  -- ---- one call within another

  -- calls of what is there are not lost
  abbrev CallsKeep : ℕ → Type 0
  CallsKeep d =
      ((b : Body) → FrameIsReady Known procedures b → (x : List ℕ) (c : Body) → Known x → body_named procedures x ≡ Some c → (ws : List ℕ) (k : ℕ)
      → Keeps false false Any NoWay (λ s. calls procedures d b (procedure x) ws k s))
      × ((b : Body) (r : FrameIsReady Known procedures b) (x : List ℕ) (z : Subroutine) → r.may (subroutine x) ≡ true → subroutine_named b.subroutines x ≡ Some z
      → (ws : List ℕ) (k : ℕ) → Keeps false false Any NoWay (λ s. calls procedures d b (subroutine x) ws k s))

  -- so those in a body, or in a subroutine of it, are not
  safe_by : (d : ℕ) → CallsKeep d → (frame : Body) (ready : FrameIsReady Known procedures frame) (b : Body) (what : Callee → ℕ → State → Outcome (Unit {0}))
      → IsReady Known procedures ready.may frame b what → CallsAreSafe ready.may b.here.names (calls procedures d frame)
  safe_by d keep frame ready b what r = record { safe = safe; fit = fits ready.may frame b what r d }
    where
      safe : (x : List ℕ) (who : Who) (p : Profile) → sense_of x (b.here.names x) ≡ a_call who p → ready.may who ≡ true → (ws : List ℕ) (k : ℕ)
          → Keeps false false Any NoWay (λ s. calls procedures d frame who ws k s)
      safe x who p e allowed ws k = by (called_is x (b.here.names x) who p e)
        where
          by : Called x (b.here.names x) who p → Keeps false false Any NoWay (λ s. calls procedures d frame who ws k s)
          by (inl both) =
              let may = ap ready.may (sym both.1) ∙ allowed in
              let there = the_some (body_named procedures x) (r.found x p both.0 may) in
              subst (λ (w : Who). Keeps false false Any NoWay (λ s. calls procedures d frame w ws k s)) (sym both.1)
              (keep.0 frame ready x there.0 (r.known x p both.0 may) there.1 ws k)
          by (inr both) =
              let may = ap ready.may (sym both.1) ∙ allowed in
              let there = the_some (subroutine_named frame.subroutines x) (r.found_inner x p both.0 may) in
              subst (λ (w : Who). Keeps false false Any NoWay (λ s. calls procedures d frame w ws k s)) (sym both.1) (keep.1 frame ready x there.0 may there.1 ws k)

  module _ (all : AreReady Known procedures) where
    calls_keep : (d : ℕ) → CallsKeep d
    calls_keep zero = ((λ b r x c known is ws k. keeps_spent), (λ b r x z may is ws k. keeps_spent))
    calls_keep (suc d) = (of_procedures (calls_keep d), of_subroutines (calls_keep d))
      where
        of_procedures : CallsKeep d → (b : Body) → FrameIsReady Known procedures b → (x : List ℕ) (c : Body) → Known x → body_named procedures x ≡ Some c
            → (ws : List ℕ) (k : ℕ) → Keeps false false Any NoWay (λ s. calls procedures (suc d) b (procedure x) ws k s)
        of_procedures keep b r x c known is ws k =
            let ready = all x c known is in
            subst (λ (o : Option Body). Keeps false false Any NoWay (λ s. call_procedure o (λ c'. calls procedures d c') d ws k s)) (sym is)
            (keeps_procedure (calls procedures d c) d c ws k
            (ready.own.runs (calls procedures d c) d (safe_by d keep c ready c (body_done c) ready.own)))

        of_subroutines : CallsKeep d → (b : Body) (r : FrameIsReady Known procedures b) (x : List ℕ) (z : Subroutine) → r.may (subroutine x) ≡ true
            → subroutine_named b.subroutines x ≡ Some z → (ws : List ℕ) (k : ℕ) → Keeps false false Any NoWay (λ s. calls procedures (suc d) b (subroutine x) ws k s)
        of_subroutines keep b r x z may is ws k =
            let ready = r.inners x z may is in
            subst (λ (o : Option Subroutine). Keeps false false Any NoWay (λ s. call_subroutine o b (calls procedures d b) d ws k s)) (sym is)
            (keeps_subroutine (calls procedures d b) d (subroutine_body b z) ws k
            (ready.runs (calls procedures d b) d (safe_by d keep b r (subroutine_body b z) (run_statement (subroutine_body b z)) ready)))

-- ---- the laws

pub never_lost : ValuesHaveTheirWords → (Known : List ℕ → Type 0) → CallsAreNeverLostWhere Known
never_lost sizes Known procedures all d b r = safe_by sizes Known procedures d (calls_keep sizes Known procedures all d) b r b (body_done b) r.own

-- the main body, and its end
keeps_main : ValuesHaveTheirWords → (Known : List ℕ → Type 0) (procedures : List Named) → AreReady Known procedures → (d : ℕ) (b : Body)
    → FrameIsReady Known procedures b → Keeps false false Any NoWay (λ s. run_main procedures d b s)
keeps_main sizes Known procedures all d b r = keeps_step (record {
  comes = λ s g.
      (keeps_if {P = Any} {Q = NoWay} (nat_lt s.now.stack (s.now.top + b.depth')) (keeps_ends (trapped StackOverflow))
      (keeps_go body (λ _ _. keeps_step (keeps_ends terminated)))).comes s g;
})
  where
    runs : Keeps false false Any (Ways true []) (λ s. body_done b (calls procedures d b) d s)
    runs = r.own.runs (calls procedures d b) d (never_lost sizes Known procedures all d b r)

    body : Keeps false false Any NoWay (λ s. returned (body_done b (calls procedures d b) d s))
    body = record { comes = λ s g. comes_returned (body_done b (calls procedures d b) d s) (runs.comes s g) }

not_lost : {A : Type 0} (o : Outcome A) → Comes false Any NoWay o → lost_of o ≡ false
not_lost (done a s) c = c.0.found
not_lost (leaves x s) c = c.0
not_lost (spent s) c = c
not_lost (ends e s) c = c
not_lost (strays s) c = c

pub program_never_lost : ValuesHaveTheirWords → (Known : List ℕ → Type 0) → ProgramsAreNeverLostWhere Known
program_never_lost sizes Known p all b is r seat m =
    subst (λ (o : Option Body). lost_of (run_program p o m (opening p seat m)) ≡ false) (sym is)
    (not_lost (run_main p.procedures m b (opening p seat m))
    ((keeps_main sizes Known p.procedures all m b r).comes (opening p seat m) (record { found = refl; code = λ e. never e })))
