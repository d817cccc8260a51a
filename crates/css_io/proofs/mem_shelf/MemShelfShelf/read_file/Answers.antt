use Rattle.std.proofs.Common.{inl, inr, refl, ◌≡◌, Some, IsSome}
use Rattle.css_io.specs.MemShelf.{files_of, file_of}
use Rattle.css_io.proofs.Files.{bytes_of-missing, bytes_of-there, bytes_of-found, counts-never_fall}
use Rattle.css_io.proofs.mem_shelf.MemShelfShelf.read_file.Goals as goal

pub returns-in-None-clause-fails : goal.returns-in-None-clause-fails
returns-in-None-clause-fails c =
    let missing = rw c.deref.ensures.value at c.in-None.ensures in
    λ _. inr (rw (← c.self.view_is) (bytes_of-missing _ c.args.name.now missing))

pub returns-in-Some-clause-never_falls : goal.returns-in-Some-clause-never_falls
returns-in-Some-clause-never_falls c =
    let inside = c.self.inside in
    rw (← c.self.view_is) (counts-never_fall (files_of inside.files.items) inside.counts.items c.fault_at.new.counts.items inside.others c.fault_at.ensures.never_fall)

pub returns-in-Some-clause-fails : goal.returns-in-Some-clause-fails
returns-in-Some-clause-fails c =
    λ _. inl (rw (← c.self.view_is) (c.if-fails.ensures.fails.0 refl))

pub returns-in-Some-clause-missing : goal.returns-in-Some-clause-missing
returns-in-Some-clause-missing c =
    let found = rw c.deref.ensures.value at c.in-Some.ensures in
    let there : IsSome (file_of c.args.self.now c.args.name.now) = rw (← c.self.view_is) (bytes_of-there _ c.args.name.now _ found) in
    λ none. cc

pub returns-in-Some-2-clause-ok : goal.returns-in-Some-2-clause-ok
returns-in-Some-2-clause-ok c =
    let found = rw c.deref.ensures.value at c.in-Some.ensures in
    let file = c.index.result.now in
    let there : file_of c.args.self.now c.args.name.now ≡ Some file.1.items = rw (← c.self.view_is) (bytes_of-found _ c.args.name.now _ file found c.index.ensures) in
    rw (there, ← c.as_slice.ensures.value) c.first_bytes.ensures.first

pub returns-in-Some-2-clause-missing : goal.returns-in-Some-2-clause-missing
returns-in-Some-2-clause-missing c =
    let found = rw c.deref.ensures.value at c.in-Some.ensures in
    let there : IsSome (file_of c.args.self.now c.args.name.now) = rw (← c.self.view_is) (bytes_of-there _ c.args.name.now _ found) in
    λ none. cc
