use Rattle.c_step_load_stmts.proofs.bodies.Body.lay.Goals as goal

pub returns-in-If-clause-falls : goal.returns-in-If-clause-falls
returns-in-If-clause-falls c = rw (c.stmt.ensures.tree, c.in-If.is) (c.branch-self.ensures.falls c.in-If.otherwise)

pub returns-in-If-clause-lays : goal.returns-in-If-clause-lays
returns-in-If-clause-lays c = λ names tells. rw (c.stmt.ensures.tree, c.in-If.is) (c.branch-self.ensures.lays c.in-If.otherwise names tells)
