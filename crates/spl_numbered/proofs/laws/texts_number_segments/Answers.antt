-- Names of segments stand once, and headings have the segments of tokens.
use Rattle.spl_numbered.proofs.Texts.{texts_number}
use Rattle.spl_numbered.proofs.laws.texts_number_segments.Goals as goal

pub returns : goal.returns
returns c = texts_number
