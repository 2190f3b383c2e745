use Rattle.std.proofs.Common.{rules, ◌∙◌}
use Rattle.hp_tos.proofs.RoomLemmas.{stored_alone}
use Rattle.hp_tos.proofs.data.Data.set_registers.Goals as goal

-- one word is stored as a list of one
pub returns-in-len1 : goal.returns-in-len1
returns-in-len1 c =
    c.set_word.ensures ∙ stored_alone _ _ _ _ c.in-len1.len_at_least c.in-len1.len_below c.requires.room (search rules)
