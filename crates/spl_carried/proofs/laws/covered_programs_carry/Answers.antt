-- Its main body is framed and followed, so each of its sessions follows the run of the units.
use Rattle.spl_carried.proofs.CarryLemmas.{carried}
use Rattle.spl_carried.proofs.laws.covered_programs_carry.Goals as goal

pub returns : goal.returns
returns c =
    carried c.modules_have_kinds.ensures.code c.sound_units_begin_well.ensures.code c.sound_jumps_land.ensures.mains c.sound_routines_land.ensures
    c.sound_inners_land.ensures
    c.programs_keep_bounds.ensures c.data_words_are_initial.ensures c.main_bodies_follow.ensures.program c.followed_programs_carry.ensures
    c.callables_follow.ensures
