use Rattle.std.proofs.Common.{rules, ◌≡◌, ◌+◌, ◌-◌, [], ◌∷◌, ◌++◌, map, sym, ap, ◌∙◌, arith}
use Rattle.mpe_progfile.specs.Reading as read
use Rattle.mpe_progfile.specs.Views.{cursor_of, Fails}
use Rattle.mpe_progfile.proofs.ReadLemmas.{behind, goes_on, fails_all, ends, map_push}
use Rattle.mpe_progfile.proofs.SpellLemmas.{spell_segment}
use Rattle.mpe_progfile.specs.Files.{segments_bytes}
use Rattle.mpe_progfile.proofs.reader.Reader.segments.Goals as goal

-- a segment at fault
pub returns-in_err-words : goal.returns-in_err-words
returns-in_err-words c =
    let h : Fails c.in_err-words.field-0.0 (read.segments c.args.count (cursor_of c.args.self.now)) =
    fails_all read.segment (map (λ s. s.items) c.loop.segments.items) c.args.count c.loop.counter (cursor_of c.loop.self) c.in_err-words.field-0.0 _
    c.loop-test.true c.loop.invariant.0 c.in_err-words.ensures.read in
    search (rules, h)

-- one segment more
pub loop-preserved : goal.loop-preserved
loop-preserved c =
    let e : c.push.new.self.items ≡ c.loop.segments.items ++ c.in_ok-words.words ∷ [] = search rules in (
      ap (λ xs. behind (map (λ s. s.items) xs) (read.times read.segment (c.args.count - (c.loop.counter + 1)) (cursor_of c.segment.new.self))) e
          ∙ ap (λ xs. behind xs (read.times read.segment (c.args.count - (c.loop.counter + 1)) (cursor_of c.segment.new.self))) (map_push (λ s. s.items) c.loop.segments.items c.in_ok-words.words)
          ∙ sym (goes_on read.segment (map (λ s. s.items) c.loop.segments.items) c.args.count c.loop.counter (cursor_of c.loop.self) (cursor_of c.segment.new.self)
          c.in_ok-words.words.items c.loop-test.true c.in_ok-words.ensures.read)
          ∙ c.loop.invariant.0,
      omega (arith, c.loop.invariant.1, c.in_ok-words.ensures.place),
      spell_segment _ c.loop.self.left.now c.segment.new.self.left.now c.loop.segments.items c.in_ok-words.words c.loop.invariant.2 c.in_ok-words.ensures.spelled
          ∙ ap (λ xs. segments_bytes (map (λ s. s.items) xs) ++ c.segment.new.self.left.now) (sym e),
      search (rules, c.loop.invariant.3, e),
    )

-- all segments
pub returns-clause-read : goal.returns-clause-read
returns-clause-read c =
    sym c.loop.invariant.0
    ∙ ends read.segment (map (λ s. s.items) c.loop.segments.items) c.args.count c.loop.counter (cursor_of c.loop.self) c.loop-test.false

pub returns-clause-spelled : goal.returns-clause-spelled
returns-clause-spelled c = c.loop.invariant.2

pub returns-clause-size : goal.returns-clause-size
returns-clause-size c = omega (arith, c.loop.invariant.3, c.loop-test.false, c.loop.auto.counter-end)
