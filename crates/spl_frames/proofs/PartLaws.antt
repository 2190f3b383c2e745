-- The parts of a run keep frames, and words.
use Rattle.std.proofs.Common.{ℕ, List, [], ◌∷◌}
use Rattle.spl_meaning.specs.States.{State, Outcome}
use Rattle.spl_meaning.specs.Runs.{calls}
use Rattle.spl_frames.specs.Words.{AllOf}
use Rattle.spl_frames.specs.Frames.{StaysIn}
use Rattle.spl_frames.specs.Laws.{PartsKeepFrames}
use Rattle.spl_frames.proofs.Steady.{BytesOf, Knowledge, Any, Steady}
use Rattle.spl_frames.proofs.FrameValues.{steady_value, steady_located, steady_index, steady_arguments}
use Rattle.spl_frames.proofs.FrameStatements.{steady_run, steady_run_all, steady_body}
use Rattle.spl_frames.proofs.FrameRuns.{steady_calls}

-- ---- nothing is known of words

all_of_any : (ws : List ℕ) → AllOf Any ws
all_of_any [] = tt
all_of_any (w ∷ ws) = (tt, all_of_any ws)

bytes_of_any : (ps : List (ℕ × ℕ)) → BytesOf Any ps
bytes_of_any [] = tt
bytes_of_any (p ∷ ps) = (λ w _. tt, bytes_of_any ps)

abbrev nothing : Knowledge
nothing = record {
  W = Any;
  L = Any;
  small = λ n l. tt;
  less = λ w n p l. tt;
  byte = λ a b w p. tt;
  answer = λ d i ws h p. all_of_any _;
  stores = λ d i ws h p. bytes_of_any _;
}

-- a part that is steady whatever is known keeps the frame
keeps : {A : Type 0} (P : A → Type 0) (f : State → Outcome A) → Steady nothing P f → (s : State) → StaysIn s.now (f s)
keeps P f t s = (t.is s (record { mem = λ a w e. tt; extra = all_of_any s.now.extra; lines = tt })).0

pub parts_keep : PartsKeepFrames
parts_keep = record {
  values = λ procedures d b e k s. keeps _ _ (steady_value nothing b.here (calls procedures d b) (steady_calls nothing procedures d b) e k) s;
  references = λ procedures d b e k s. keeps _ _ (steady_located nothing b.here (calls procedures d b) (steady_calls nothing procedures d b) e k) s;
  indices = λ procedures d b es k s. keeps _ _ (steady_index nothing b.here (calls procedures d b) (steady_calls nothing procedures d b) es k) s;
  argument_lists = λ procedures d b fs es k s.
      keeps _ _ (steady_arguments nothing b.here (calls procedures d b) (steady_calls nothing procedures d b) fs es k) s;
  callees = λ procedures d b who ws k s. keeps _ _ (steady_calls nothing procedures d b who ws k (all_of_any ws)) s;
  statements = λ procedures d i b st k s.
      keeps _ _ (steady_run nothing d i b.here (calls procedures d b) (steady_calls nothing procedures d b) st k) s;
  lists = λ procedures d i b ss k s.
      keeps _ _ (steady_run_all nothing d i b.here (calls procedures d b) (steady_calls nothing procedures d b) ss k) s;
  bodies = λ procedures d i b ss s.
      keeps _ _ (steady_body nothing d i b.here (calls procedures d b) (steady_calls nothing procedures d b) ss) s;
}
