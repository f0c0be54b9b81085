-- What calls a method's code may have: a test of each call in a block, and in what follows it.
use Rattle.std.specs.Prelude.{◌≡◌, ◌⊎◌}
use Rattle.wf_ast.specs.TypedTree.{Called, Simple, invoke, Block, end, plain, choose, loop}
use Rattle.wf_meaning.specs.SourceState.{Behind, stop, behind_if, again, Done, untouched, Remaining}
use Rattle.wf_meaning_laws.specs.Started.{FirstHasDone}

abbrev pub CallIn : (Called → Type 0) → Simple → Type 0
CallIn C (invoke at target keep mark called args) = C called
CallIn C s = Unit {0}

-- Each call in a block.
abbrev pub Calls : (Called → Type 0) → Block → Type 0
Calls C end = Unit {0}
Calls C (plain site s rest) = CallIn C s × Calls C rest
Calls C (choose site chained cond a b rest) = Calls C a × (Calls C b × Calls C rest)
Calls C (loop site head body rest) = Calls C body × Calls C rest

-- Each call in what follows a block.
abbrev pub CallsAfter : (Called → Type 0) → Behind → Type 0
CallsAfter C stop = Unit {0}
CallsAfter C (behind_if rest behind) = Calls C rest × CallsAfter C behind
CallsAfter C (again site head body rest behind) = Calls C body × (Calls C rest × CallsAfter C behind)

abbrev pub Code : (Called → Type 0) → Block → Behind → Type 0
Code C block behind = Calls C block × CallsAfter C behind

-- What remains of a method has only such calls, and its first statement was started.
abbrev pub Left : (Called → Type 0) → Remaining → Type 0
Left C left = Code C left.block left.behind × FirstHasDone left.block left.done

-- A statement as a body comes to it: with nothing done, or started.
abbrev pub Begun : Done → Block → Type 0
Begun done block = (done ≡ untouched) ⊎ FirstHasDone block done
