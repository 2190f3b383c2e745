-- The program's words are the run's, and behind them stands the marker.
use Rattle.spl_followed.proofs.OpeningLaws.{sessions_open}
use Rattle.spl_followed.proofs.laws.sessions_open_as_runs.Goals as goal

pub returns : goal.returns
returns c = sessions_open c.words_stay_words.ensures c.openings_have_their_words.ensures
