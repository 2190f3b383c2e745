use Rattle.spl_depths.proofs.HeadingLaws.{few_in_heading}
use Rattle.spl_depths.proofs.laws.headings_have_few_words.Goals as goal

-- parameter by parameter
pub returns : goal.returns
returns c = few_in_heading
