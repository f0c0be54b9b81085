use Rattle.wf_exprs.proofs.Growing.{grows_on}
use Rattle.wf_exprs.proofs.rated.linked.Goals as goal

pub returns-in_ok-left-in-Shl-clause-grows : goal.returns-in_ok-left-in-Shl-clause-grows
returns-in_ok-left-in-Shl-clause-grows c = grows_on c.firm.ensures.grows c.two.ensures.grows

pub returns-in_ok-left-in-ModShl-clause-grows : goal.returns-in_ok-left-in-ModShl-clause-grows
returns-in_ok-left-in-ModShl-clause-grows c = grows_on c.firm-in-ModShl.ensures.grows c.cut_off_two.ensures.grows

pub returns-in_ok-left-in-ModMul-clause-grows : goal.returns-in_ok-left-in-ModMul-clause-grows
returns-in_ok-left-in-ModMul-clause-grows c = grows_on c.factor.ensures.grows c.cut_off_two-in-ModMul.ensures.grows

pub returns-in_ok-left-in-ModAdd-clause-grows : goal.returns-in_ok-left-in-ModAdd-clause-grows
returns-in_ok-left-in-ModAdd-clause-grows c = grows_on c.balanced.ensures.grows c.cut_off_two-in-ModAdd.ensures.grows

pub returns-in_ok-left-in-Add-clause-grows : goal.returns-in_ok-left-in-Add-clause-grows
returns-in_ok-left-in-Add-clause-grows c = grows_on c.balanced-in-Add.ensures.grows c.two-in-Add.ensures.grows
