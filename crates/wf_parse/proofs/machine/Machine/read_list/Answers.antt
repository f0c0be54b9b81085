use Rattle.std.proofs.Common.{◌≤◌, length, subst}
use Rattle.wf_parse_grammar.specs.declared.builds.Build.{Build}
use Rattle.wf_parse.specs.Machines.{wanted}
use Rattle.wf_parse.proofs.Shortness.{few_wanted}
use Rattle.wf_parse.proofs.Keeping.{taken_size}
use Rattle.wf_parse.proofs.machine.Machine.read_list.Goals as goal

pub take-requires-clause-few : goal.take-requires-clause-few
take-requires-clause-few c =
    let few : length (wanted c.build-built.result) ≤ 12 = few_wanted c.args.symbol c.args.token.kind c.args.token.at c.build-built.result c.build-built.ensures in
    let P : Build → Type 0 = λ b. length (wanted b) ≤ 12 in
    subst P c.in-Take.is few

pub begin-requires-clause-few : goal.begin-requires-clause-few
begin-requires-clause-few c =
    let few : length (wanted c.build-built.result) ≤ 12 = few_wanted c.args.symbol c.args.token.kind c.args.token.at c.build-built.result c.build-built.ensures in
    let P : Build → Type 0 = λ b. length (wanted b) ≤ 12 in
    subst P c.in-Begin.is few

pub enter-requires-clause-few : goal.enter-requires-clause-few
enter-requires-clause-few c =
    let few : length (wanted c.build-built.result) ≤ 12 = few_wanted c.args.symbol c.args.token.kind c.args.token.at c.build-built.result c.build-built.ensures in
    let P : Build → Type 0 = λ b. length (wanted b) ≤ 12 in
    subst P c.in-Enter.is few

pub returns-in-Take-clause-size : goal.returns-in-Take-clause-size
returns-in-Take-clause-size c = taken_size c.take.result c.args.self.now c.take.new.self c.take.ensures.ok c.take.ensures.size

pub returns-in-Begin-clause-size : goal.returns-in-Begin-clause-size
returns-in-Begin-clause-size c = taken_size c.begin.result c.args.self.now c.begin.new.self c.begin.ensures.ok c.begin.ensures.size

pub returns-in-Enter-clause-size : goal.returns-in-Enter-clause-size
returns-in-Enter-clause-size c = taken_size c.enter.result c.args.self.now c.enter.new.self c.enter.ensures.ok c.enter.ensures.size
