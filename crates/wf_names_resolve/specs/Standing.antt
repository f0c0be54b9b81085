-- What names stand for, by number.
use Rattle.std.specs.Prelude.{◌+◌, ℕ, List, Option, Some, None, option_map}
use Rattle.wf_ast.specs.declared.parsed.Receiver.{Receiver}
use Rattle.wf_names_rules.specs.declared.callees.Callee.{Callee}
use Rattle.wf_names_rules.specs.declared.here.Here.{Here}
use Rattle.wf_names_rules.specs.declared.tables.Tables.{Tables}
use Rattle.wf_names_rules.specs.declared.tables.Scope.{Scope as ScopeTables}
use Rattle.wf_names_rules.specs.Declarations.{Declared, text_of, status_named, struct_named, place_in}
use Rattle.wf_names_rules.specs.Uses.{Scope}
use Rattle.wf_names_rules.specs.Meanings.{fields_known, known_at, callee_on}
use Rattle.wf_names_rules.specs.Tables.{pair_place, known_by, args_at, number_at, constant_place_at, local_place_at, arg_place_at}

-- What is looked up at a place; names and quoted texts stand by the numbers of their texts.
pub record Standing : Type 0 where
  -- the bytes of a text
  pub bytes : ℕ → List ℕ
  -- the number of a status of the package: its place after the ten of the language
  pub status : ℕ → Option ℕ
  -- the place of a struct among the structs
  pub structure : ℕ → Option ℕ
  -- the place of the first local, constant, field of the struct of `this`, argument of this name
  pub local : ℕ → Option ℕ
  pub constant : ℕ → Option ℕ
  pub field : ℕ → Option ℕ
  pub arg : ℕ → Option ℕ
  -- what the method name of a call stands for
  pub callee : Receiver → ℕ → Callee
  -- the names of a method's arguments, each once
  pub args : (m : ℕ) → List ℕ

-- By the declarations of a package, in a scope.
abbrev pub standing_at : Declared → Scope → Standing
standing_at d scope = record {
  bytes = text_of d;
  status = λ text. option_map (λ n. 10 + n) (status_named d text);
  structure = struct_named d;
  local = place_in scope.locals;
  constant = place_in scope.constants;
  field = place_in (fields_known d scope.this);
  arg = place_in scope.args;
  callee = callee_on (known_at d scope);
  args = (known_at d scope).args;
}

-- By tables; `texts` are those of the package.
abbrev pub field_numbered : Tables → (this : Option ℕ) → ℕ → Option ℕ
field_numbered t None text = None
field_numbered t (Some owner) text = pair_place t.fields (owner, text)

abbrev pub standing_by : (texts : List (List ℕ)) → Tables → ScopeTables → Standing
standing_by texts t s = record {
  bytes = (known_by texts t s).bytes;
  status = number_at t.statuses;
  structure = number_at t.structs;
  local = local_place_at t s.method;
  constant = constant_place_at t s.constants;
  field = field_numbered t s.this;
  arg = arg_place_at t s.method;
  callee = callee_on (known_by texts t s);
  args = args_at t;
}

abbrev pub standing_here : Here → Standing
standing_here here = standing_by here.parsed.now.texts here.tables.now here.scope.now
