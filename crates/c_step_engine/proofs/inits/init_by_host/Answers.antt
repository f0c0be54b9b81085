use Rattle.std.proofs.Common.{Option, [], ◌∷◌, ap, sym, option_map, ◌∙◌}
use Rattle.turns.specs.Run.{Lost}
use Rattle.c_meaning.specs.CRun.{initialize_name}
use Rattle.c_mem.specs.MemoryViews.{memory}
use Rattle.c_step_run.specs.declared.store.Active.{Active}
use Rattle.c_step_engine.proofs.InitCalls.{no_function, init_given}
use Rattle.c_step_engine.proofs.inits.init_by_host.Goals as goal

pub returns-in_default-clause-gives : goal.returns-in_default-clause-gives
returns-in_default-clause-gives c = λ it s e ok table coded.
    init_given it (memory c.args.st.now.mem) s c.args.receiver c.args.turns Lost
    (no_function it.program (initialize_name it.surface s) c.args.turns (c.args.receiver ∷ []) (memory c.args.st.now.mem) (sym (ap (λ (o : Option Active). option_map (λ a. a.own) o) c.in_default.is) ∙ e))
