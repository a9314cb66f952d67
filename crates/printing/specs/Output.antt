-- How long the text is that the listing program prints.
use Rattle.std.specs.Prelude.{ℕ, ◌+◌, ◌≤◌}
use Rattle.printing.specs.declared.text.Text.{Text}

-- the text has room for so many bytes more
abbrev pub HasRoom : ℕ → Text → Type 0
HasRoom more text = text.len + more ≤ 28832

-- at most so many bytes are put behind the text
abbrev pub Puts : ℕ → Text → Text → Type 0
Puts most text text' = text'.len ≤ text.len + most
