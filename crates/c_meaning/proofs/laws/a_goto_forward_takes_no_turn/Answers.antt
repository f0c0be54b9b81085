use Rattle.c_meaning.proofs.Jumps.{jump_behind, jump_in_front, label_stands}
use Rattle.c_meaning.proofs.laws.a_goto_forward_takes_no_turn.Goals as goal

pub returns-clause-behind : goal.returns-clause-behind
returns-clause-behind c = jump_behind

pub returns-clause-in_front : goal.returns-clause-in_front
returns-clause-in_front c = jump_in_front

pub returns-clause-stands : goal.returns-clause-stands
returns-clause-stands c = label_stands
