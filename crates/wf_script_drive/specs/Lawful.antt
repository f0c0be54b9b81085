-- What makes a script's actions lawful: that they are those of a script that was read, over a surface whose methods
-- have numbers of their own.
use Rattle.std.specs.Prelude.{ℕ, ◌≡◌, ⊤, List, map, All, Ok}
use Rattle.wf_text.specs.Surface.{Surface}
use Rattle.wf_text.specs.HostActions.{init, call, put, close, compact, replace, Receiver}
use Rattle.wf_base.specs.LawfulActions.{AreDistinct, MayAct}
use Rattle.wf_script_rules.specs.Lines.{Command, declares, acts, shows, sets_turns}
use Rattle.wf_script_rules.specs.Scripts.{Script, script_of}

-- No two methods of a struct have one number.
abbrev pub HasOwnNumbers : Surface → Type 0
HasOwnNumbers surface = All (λ it. AreDistinct (map (λ method. method.number) it.methods)) surface.structs

-- Some bytes are this script over the surface.
abbrev pub IsScript : Surface → Script → Type 0
IsScript surface script = (bytes : List ℕ) × (script_of surface bytes ≡ Ok script)

-- A command that may come where the host has so many buffers and byte arrays. None replaces them.
abbrev pub MayCome : Surface → List Receiver → (buffers arrays : ℕ) → Command → Type 0
MayCome surface receivers buffers arrays (acts (init receiver within)) = MayAct surface receivers buffers arrays (init receiver within)
MayCome surface receivers buffers arrays (acts (call receiver method args within)) = MayAct surface receivers buffers arrays (call receiver method args within)
MayCome surface receivers buffers arrays (acts (put buffer more)) = MayAct surface receivers buffers arrays (put buffer more)
MayCome surface receivers buffers arrays (acts (close buffer)) = MayAct surface receivers buffers arrays (close buffer)
MayCome surface receivers buffers arrays (acts (compact buffer)) = MayAct surface receivers buffers arrays (compact buffer)
MayCome surface receivers buffers arrays (acts (replace others strings)) = ⊥
MayCome surface receivers buffers arrays (declares it) = ⊤
MayCome surface receivers buffers arrays (shows it) = ⊤
MayCome surface receivers buffers arrays (sets_turns n) = ⊤
