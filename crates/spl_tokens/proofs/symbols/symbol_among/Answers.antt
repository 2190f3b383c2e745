use Rattle.std.proofs.Common.{sym, ◌∙◌, []}
use Rattle.spl_tree.specs.declared.symbols.Symbol.TheVariants as s
use Rattle.spl_tokens.proofs.CursorLemmas.{word_found, word_passed}
use Rattle.spl_tokens.proofs.symbols.symbol_among.Goals as goal

-- the word is the next of the table
pub returns-then-eq : goal.returns-then-eq
returns-then-eq c = sym (word_found c.args.words.now c.args.letters.now c.loop-word.word-index (record { ref_ptr = (0, 0); now = [] }, s.Name) c.loop-word-test.true
    (cc (c.eq.ensures, c.if-eq.true, c.as_bytes.ensures.value))) ∙ c.loop-word.invariant

pub loop-word-preserved : goal.loop-word-preserved
loop-word-preserved c = sym (word_passed c.args.words.now c.args.letters.now c.loop-word.word-index (record { ref_ptr = (0, 0); now = [] }, s.Name) c.loop-word-test.true
    (cc (c.eq.ensures, c.if-eq.false, c.as_bytes.ensures.value))) ∙ c.loop-word.invariant
