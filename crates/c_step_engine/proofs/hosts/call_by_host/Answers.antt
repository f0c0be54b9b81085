use Rattle.std.proofs.Common.{List, ap, sym, ◌∙◌}
use Rattle.std.specs.Prelude.{reverse}
use Rattle.std.proofs.lemmas.List.{reverse-reverse}
use Rattle.c_meaning.specs.declared.values.CValue.{CValue}
use Rattle.c_meaning.specs.CCall.{expression_call, call_of, function_meaning}
use Rattle.c_mem.specs.MemoryViews.{memory}
use Rattle.c_step_engine.proofs.HostCalls.{found_by_name, called_by_name}
use Rattle.c_step_engine.proofs.hosts.call_by_host.Goals as goal

pub returns-clause-means : goal.returns-clause-means
returns-clause-means c = λ p name e coded.
    let r = found_by_name c.args.code.now c.args.st.now.frames.items c.args.st.now.args.items p name c.args.at.own e coded in
    called_by_name c.args.code.now c.args.st.now.frames.items c.args.st.now.args.items p name c.args.at.own c.args.turns c.args.given.now (memory c.args.st.now.mem) e r
    ∙ (ap (λ (given : List CValue). function_meaning p r.it (expression_call p r.front) (call_of p r.front) c.args.turns given (memory c.args.st.now.mem))
    (sym (ap (λ (xs : List CValue). reverse xs) c.put_all.ensures.values ∙ reverse-reverse c.args.given.now))
    ∙ c.call.ensures.means p r.it r.front r.size (r.coded, r.others))
