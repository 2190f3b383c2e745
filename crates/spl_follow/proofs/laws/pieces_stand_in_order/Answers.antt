-- Piece by piece.
use Rattle.spl_follow.proofs.StandLemmas.{closed_last}
use Rattle.spl_follow.proofs.PartLemmas.{stand_in_order, stand_from_place}
use Rattle.spl_follow.proofs.laws.pieces_stand_in_order.Goals as goal

pub returns-clause-closed : goal.returns-clause-closed
returns-clause-closed c = stand_in_order

pub returns-clause-from_place : goal.returns-clause-from_place
returns-clause-from_place c = stand_from_place

pub returns-clause-last : goal.returns-clause-last
returns-clause-last c = closed_last
