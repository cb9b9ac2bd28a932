-- The parts of a server that its contracts use.
use Rattle.s10_ends.specs.declared.server.Server.{Server}

-- The book of a server.
abbrev pub book_of : {B : Type 0} → Server B → B
book_of server = server.book
