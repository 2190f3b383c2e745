-- By what the store answers.
use Rattle.std.proofs.Common.{◌∙◌, ap, refl, sym, subst}
use Rattle.hp_session.specs.declared.registers.Regs.{Regs}
use Rattle.hp_calls.specs.declared.phases.Phase.{Phase}
use Rattle.hp_cpu.specs.declared.cpu.Stepped.{Stepped}
use Rattle.hp_cpu.specs.Answers.{stepped}
use Rattle.hp_cpu.specs.Steps.{Steps}
use Rattle.hp_cpu.specs.Suits.{KeepsRoom, Suits}
use Rattle.hp_cpu.proofs.StepLemmas.{acted, acting, fetch_waited, outside, waited}
use Rattle.hp_cpu.proofs.SuitLemmas.{acted_room, acted_suits, no_word_suits}
use Rattle.hp_cpu.proofs.cpu.Cpu.step.Goals as goal

-- a transfer waits
pub returns-in-Err : goal.returns-in-Err
returns-in-Err g c =
    let stays = ap (λ (r : Regs). record c.args.self.now { regs = r }) c.in-Err.ensures.err in
    record {
      steps = λ program of count. waited program (g.C.CodeStore.held c.args.code.now) c.args.self.now _ c.in-Err.seg (sym c.finish_transfer.ensures.value ∙ c.in-Err.is) stays;
      room = λ program of count. record { same_limit = refl; same_size = refl; same_capacity = refl; same_extra_capacity = refl };
      suits = λ program main entry globals valid of suits. subst (Suits program) (sym stays) suits;
      ready = tt;
    }

-- so does the next step, where its segment is not held
pub returns-in-Absent : goal.returns-in-Absent
returns-in-Absent g c =
    let held = g.C.CodeStore.held c.args.code.now in
    let here = sym c.finish_transfer.ensures.value ∙ c.in_default.is in
    record {
      steps = λ program of count. fetch_waited program held c.args.self.now _ c.finish_transfer.new.regs here c.in_default.ensures.ok refl
          (sym c.fetch.ensures ∙ c.in-Absent.is);
      room = λ program of count. record { same_limit = refl; same_size = refl; same_capacity = refl; same_extra_capacity = refl };
      suits = λ program main entry globals valid of suits. no_word_suits program held c.args.self.now c.finish_transfer.new.regs of here c.in_default.ensures.ok suits;
      ready = tt;
    }

-- there is no word
pub returns-in-Outside : goal.returns-in-Outside
returns-in-Outside g c =
    let held = g.C.CodeStore.held c.args.code.now in
    let here = sym c.finish_transfer.ensures.value ∙ c.in_default.is in
    record {
      steps = λ program of count. outside program held c.args.self.now c.finish_transfer.new.regs of here c.in_default.ensures.ok (sym c.fetch.ensures ∙ c.in-Outside.is);
      room = λ program of count. record { same_limit = refl; same_size = refl; same_capacity = refl; same_extra_capacity = refl };
      suits = λ program main entry globals valid of suits. no_word_suits program held c.args.self.now c.finish_transfer.new.regs of here c.in_default.ensures.ok suits;
      ready = tt;
    }

-- the word acts
pub returns-in-Word : goal.returns-in-Word
returns-in-Word g c =
    let held = g.C.CodeStore.held c.args.code.now in
    let old = c.args.self.now in
    let regs = c.finish_transfer.new.regs in
    let next = c.act.new.regs in
    let stack = c.act.new.stack in
    let here = sym c.finish_transfer.ensures.value ∙ c.in_default.is in
    let is = c.in_default.ensures.ok in
    let fetch = sym c.fetch.ensures ∙ c.in-Word.is in
    record {
      steps = λ program of count.
          let came = c.act.ensures.came program count (acting program held old regs of c.in-Word.w fetch) refl in
          subst (λ (a : Stepped). Steps program held old a (record old { regs = next; phase = c.act.new.phase; stack = stack })) (sym came.told)
          (subst (λ (p : Phase). Steps program held old (stepped came.answer) (record old { regs = next; phase = p; stack = stack })) (sym came.left)
          (acted program held old regs c.in-Word.w of here is fetch came.answer next stack came.acts));
      room = λ program of count.
          let came = c.act.ensures.came program count (acting program held old regs of c.in-Word.w fetch) refl in
          subst (λ (p : Phase). KeepsRoom old (record old { regs = next; phase = p; stack = stack })) (sym came.left)
          (acted_room program held old regs c.in-Word.w of here is fetch came.answer next stack came.acts);
      suits = λ program main entry globals valid of suits.
          let came = c.act.ensures.came program suits.count (acting program held old regs of c.in-Word.w fetch) refl in
          subst (λ (p : Phase). Suits program (record old { regs = next; phase = p; stack = stack })) (sym came.left)
          (acted_suits program main entry globals valid held old regs c.in-Word.w of here is fetch came.answer next stack came.acts suits);
      ready = c.act.ensures.ready;
    }
