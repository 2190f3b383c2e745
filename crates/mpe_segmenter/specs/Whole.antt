-- What segments must have so that a program can be made of them.
use Rattle.std.specs.Prelude.{◌≡◌, ◌≤◌, nat_lt, ◌&&◌, Bool, true, if◌then◌else◌, List, length, is_some}
use Rattle.std.specs.List.{list_all}
use Rattle.mpe_segmenter.specs.Names.{Part}
use Rattle.mpe_segmenter.specs.Entries.{Wanted, table_of, gate_of}
use Rattle.mpe_segmenter.specs.Counts.{is_fitting}
use Rattle.mpe_segmenter.specs.Homes.{home_at}
use Rattle.mpe_segmenter.specs.Programs.{main_from}

-- a name that is wanted is an intrinsic's, or a procedure may be called by it
abbrev pub is_resolved : List Part → Wanted → Bool
is_resolved ps w = if w.gate then nat_lt 0 (gate_of w.name) else is_some (home_at 0 ps w.name)

-- a segment has modules, and what it wants is there
abbrev pub is_linked : List Part → Part → Bool
is_linked ps p = nat_lt 0 (length p.modules) && list_all (is_resolved ps) (table_of p.modules).wanted

-- segments are whole: at most 62, each fits and has what it wants, and one has the main body
pub record IsWhole (ps : List Part) : Type 0 where
  pub count : length ps ≤ 62
  pub fitting : list_all is_fitting ps ≡ true
  pub linked : list_all (is_linked ps) ps ≡ true
  pub main : is_some (main_from 0 ps) ≡ true
