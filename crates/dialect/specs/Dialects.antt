-- One record of rules, and a value of it for each kind of term.
use Rattle.std.specs.Prelude.{true, false}
use Rattle.dialect.specs.declared.Dialect.{Dialect}

-- "Limits: 4,096 bytes; 16 parentheses open at once."
abbrev pub ordinary : Dialect
ordinary = record { bytes = 4096; depth = 16; wrong = 4; hex = false; panel = false }

-- request 106: "An integer token may also be `0x` and one to eight digits"
abbrev pub with_hex : Dialect
with_hex = record { bytes = 4096; depth = 16; wrong = 4; hex = true; panel = false }

-- request 101: "no binary minus, no EXPT of anything but a letter"; "512 deep and reach 65,535 bytes"; "15, not a panel term, replaces 4"
abbrev pub panel_terms : Dialect
panel_terms = record { bytes = 65535; depth = 512; wrong = 15; hex = false; panel = true }
