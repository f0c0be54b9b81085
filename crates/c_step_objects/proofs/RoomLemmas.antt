-- What is kept for calls.
use Rattle.std.proofs.Common.{◌≡◌, ℕ, true, List, [], ◌∷◌, ◌++◌, refl, sym, ap, subst}
use Rattle.c_meaning.specs.CMemory.{Object}
use Rattle.c_meaning.specs.CRun.{no_buffer, bytes_object}
use Rattle.c_mem.specs.FieldParts.{has_bytes}
use Rattle.c_mem.specs.MemoryViews.{HasRoom}
use Rattle.c_mem.specs.declared.mem.Mem.{Mem}
use Rattle.c_step_hosts.specs.Spares.{IsIo, AreIos, HaveBytes}

ios_end : (all : List Object) (x : Object) → AreIos all → IsIo x → AreIos (all ++ x ∷ [])
ios_end [] x h i = (i, tt)
ios_end (y ∷ all) x h i = (h.0, ios_end all x h.1 i)

pub ios_more : (all new : List Object) (x : Object) → new ≡ all ++ x ∷ [] → x ≡ no_buffer → AreIos all → AreIos new
ios_more all new x put is h = subst AreIos (sym put) (ios_end all x h (subst IsIo (sym is) refl))

bytes_end : (all : List Object) (x : Object) → HaveBytes all → has_bytes x ≡ true → HaveBytes (all ++ x ∷ [])
bytes_end [] x h i = (i, tt)
bytes_end (y ∷ all) x h i = (h.0, bytes_end all x h.1 i)

pub bytes_more : (all new : List Object) (x : Object) → new ≡ all ++ x ∷ [] → x ≡ bytes_object [] → HaveBytes all → HaveBytes new
bytes_more all new x put is h = subst HaveBytes (sym put) (bytes_end all x h (ap has_bytes is))

pub room_as : (m : Mem) (a b : ℕ) → a ≡ b → HasRoom m a → HasRoom m b
room_as m a b e h = subst (HasRoom m) e h
