-- The words of the codes.
use Rattle.std.specs.Prelude.{ℕ, ◌==◌, List, codes, if◌then◌else◌}

-- The word of a code is its name, or no-such-code.
abbrev pub word_of : ℕ → List ℕ
word_of code =
    if code == 0 then codes "ok"
    else if code == 1 then codes "length"
    else if code == 2 then codes "letter"
    else if code == 3 then codes "digit"
    else if code == 4 then codes "check-digit"
    else if code == 11 then codes "short"
    else if code == 12 then codes "magic"
    else if code == 13 then codes "version"
    else if code == 14 then codes "kind"
    else if code == 15 then codes "length"
    else if code == 16 then codes "field"
    else if code == 17 then codes "outcome"
    else if code == 21 then codes "idle"
    else if code == 22 then codes "not-mine"
    else if code == 23 then codes "busy"
    else if code == 24 then codes "numbers-spent"
    else if code == 31 then codes "bad-kind"
    else if code == 32 then codes "bad-service"
    else if code == 33 then codes "bad-country"
    else if code == 34 then codes "bad-serial"
    else if code == 35 then codes "bad-last"
    else if code == 36 then codes "bad-count"
    else if code == 41 then codes "no-room"
    else codes "no-such-code"
