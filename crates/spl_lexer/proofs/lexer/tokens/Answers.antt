-- What is read is what the text is cut into, or its first fault.
use Rattle.spl_lexer.proofs.AnswerLemmas.{cut_is, cut_ends, fault_first, cuts_give, faults_refuse}
use Rattle.spl_lexer.proofs.lexer.tokens.Goals as goal

pub returns : goal.returns
returns c =
    let text = c.args.text.now in
    let r = c.read_all.result in
    record {
      cut = cut_is c.args.unit text r c.read_all.ensures;
      whole = cut_ends c.args.unit text r c.read_all.ensures;
      fault = fault_first c.args.unit text r c.read_all.ensures;
      cuts = cuts_give c.args.unit text r c.read_all.ensures;
      faults = faults_refuse c.args.unit text r c.read_all.ensures;
    }
