-- Part by part, as the session of the flat machine opens.
use Rattle.std.proofs.Common.{◌≡◌, ◌+◌, ◌++◌, length, take, replicate, rules, ap, subst, ◌∙◌, arith, Vec, Global, List, ℕ}
use Rattle.std.proofs.lemmas.List.{length-map}
use Rattle.hp_program.specs.Programs.{segments_of}
use Rattle.hp_program.specs.Valid.{label_of}
use Rattle.hp_program.proofs.ValidLaws.{main_there}
use Rattle.mpe_turns.proofs.StepLemmas.{few_segments}
use Rattle.mpe_turns.proofs.OpenLemmas.{opened_run}
use Rattle.mpe_turns.proofs.opening.open_session.Goals as goal

pub overflow_cast-cpu : goal.overflow_cast-cpu
overflow_cast-cpu c = omega (arith, few_segments c.args.program.now, c.args.program.now.segments.ok.0, c.len.ensures)

pub returns-clause-run : goal.returns-clause-run
returns-clause-run c =
    let p = c.args.program.now in
    let seat = c.args.seat in
    let count : c.len-data.result ≡ length p.globals.items = omega (arith, c.len-data.ensures, p.globals.ok.0) in
    let extra : c.in_ok-extra.extra.items ≡ replicate seat.extra 0 = search rules in
    let front = subst (λ (gs : List ℕ). take (length gs + 4) c.in_ok-room.room.items ≡ gs ++ replicate 4 0) c.deref.ensures.value c.in_ok-room.ensures.words in
    let long : length c.in_ok-room.room.items ≡ seat.stack = omega (arith, c.in_ok-room.ensures.len, c.in_ok-room.room.ok.0) in
    opened_run p seat (c.len-data.result + 3) c.label_word.result c.make-2.result c.len.result c.in_ok-terminal.terminal
    c.in_ok-room.room.items c.in_ok-extra.extra.items _ _ (c.len-data.result + 4) c.make-2.ensures (omega (arith, count)) front long extra c.in_ok-terminal.ensures
    (omega (arith, count)) (c.label_word.ensures ∙ ap (λ (words : List ℕ). label_of words p.entry) c.segment_words.ensures)

pub returns-clause-session : goal.returns-clause-session
returns-clause-session c =
    let p = c.args.program.now in
    let count : length p.segments.items ≡ c.len.result = omega (arith, p.segments.ok.0, c.len.ensures) in
    record {
      count = length-map p.segments.items (λ (w : Vec ℕ Global). w.items) ∙ count;
      current = main_there (segments_of p) p.main p.entry p.globals.items p.valid;
      entering = λ seg entry e. cc;
      returning = λ seg offset e. cc;
    }
