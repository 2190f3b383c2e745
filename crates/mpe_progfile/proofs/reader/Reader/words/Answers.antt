use Rattle.std.proofs.Common.{rules, ◌≡◌, ◌+◌, ◌-◌, [], ◌∷◌, ◌++◌, sym, ap, ◌∙◌, arith}
use Rattle.mpe_progfile.specs.Reading as read
use Rattle.mpe_progfile.specs.Views.{cursor_of, Fails}
use Rattle.mpe_progfile.proofs.ReadLemmas.{behind, goes_on, fails_all, ends}
use Rattle.mpe_progfile.proofs.SpellLemmas.{spell_word}
use Rattle.mpe_progfile.specs.Files.{words_bytes}
use Rattle.mpe_progfile.proofs.reader.Reader.words.Goals as goal

-- a word that is missing
pub returns-in_err-word : goal.returns-in_err-word
returns-in_err-word c =
    let h : Fails c.in_err-word.field-0.0 (read.words c.args.count (cursor_of c.args.self.now)) =
    fails_all read.word c.loop.words.items c.args.count c.loop.counter (cursor_of c.loop.self) c.in_err-word.field-0.0 _ c.loop-test.true
    c.loop.invariant.0 c.in_err-word.ensures.read in
    search (rules, h)

-- one word more
pub loop-preserved : goal.loop-preserved
loop-preserved c =
    let e : c.push.new.self.items ≡ c.loop.words.items ++ c.in_ok-word.word ∷ [] = search rules in (
      ap (λ xs. behind xs (read.times read.word (c.args.count - (c.loop.counter + 1)) (cursor_of c.word.new.self))) e
          ∙ sym (goes_on read.word c.loop.words.items c.args.count c.loop.counter (cursor_of c.loop.self) (cursor_of c.word.new.self) c.in_ok-word.word
          c.loop-test.true c.in_ok-word.ensures.read)
          ∙ c.loop.invariant.0,
      omega (arith, c.loop.invariant.1, c.in_ok-word.ensures.place),
      search (rules, c.loop.invariant.2, e),
      spell_word _ c.loop.self.left.now c.word.new.self.left.now c.loop.words.items c.in_ok-word.word c.loop.invariant.3 c.in_ok-word.ensures.spelled
          ∙ ap (λ xs. words_bytes xs ++ c.word.new.self.left.now) (sym e),
    )

-- all words
pub returns-clause-read : goal.returns-clause-read
returns-clause-read c = sym c.loop.invariant.0 ∙ ends read.word c.loop.words.items c.args.count c.loop.counter (cursor_of c.loop.self) c.loop-test.false

pub returns-clause-place : goal.returns-clause-place
returns-clause-place c = omega (arith, c.loop.invariant.1, c.loop-test.false, c.loop.auto.counter-end)

pub returns-clause-size : goal.returns-clause-size
returns-clause-size c = omega (arith, c.loop.invariant.2, c.loop-test.false, c.loop.auto.counter-end)

pub returns-clause-spelled : goal.returns-clause-spelled
returns-clause-spelled c = c.loop.invariant.3
