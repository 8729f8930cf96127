-- The characters that stand in the layouts, by their ASCII codes. `'␣'` is a space.
-- Assumes nothing.
use Rattle.std.specs.Prelude.{ℕ}

abbrev pub '␣' : ℕ
'␣' = 0x20

abbrev pub '0' : ℕ
'0' = 0x30

abbrev pub '1' : ℕ
'1' = 0x31

abbrev pub '2' : ℕ
'2' = 0x32

abbrev pub '3' : ℕ
'3' = 0x33

abbrev pub 'A' : ℕ
'A' = 0x41

abbrev pub 'B' : ℕ
'B' = 0x42

abbrev pub 'C' : ℕ
'C' = 0x43

abbrev pub 'D' : ℕ
'D' = 0x44

abbrev pub 'E' : ℕ
'E' = 0x45

abbrev pub 'F' : ℕ
'F' = 0x46

abbrev pub 'G' : ℕ
'G' = 0x47

abbrev pub 'H' : ℕ
'H' = 0x48

abbrev pub 'I' : ℕ
'I' = 0x49

abbrev pub 'J' : ℕ
'J' = 0x4a

abbrev pub 'K' : ℕ
'K' = 0x4b

abbrev pub 'L' : ℕ
'L' = 0x4c

abbrev pub 'M' : ℕ
'M' = 0x4d

abbrev pub 'N' : ℕ
'N' = 0x4e

abbrev pub 'O' : ℕ
'O' = 0x4f

abbrev pub 'P' : ℕ
'P' = 0x50

abbrev pub 'Q' : ℕ
'Q' = 0x51

abbrev pub 'R' : ℕ
'R' = 0x52

abbrev pub 'S' : ℕ
'S' = 0x53

abbrev pub 'T' : ℕ
'T' = 0x54

abbrev pub 'U' : ℕ
'U' = 0x55

abbrev pub 'V' : ℕ
'V' = 0x56

abbrev pub 'W' : ℕ
'W' = 0x57

abbrev pub 'X' : ℕ
'X' = 0x58

abbrev pub 'Y' : ℕ
'Y' = 0x59

abbrev pub 'Z' : ℕ
'Z' = 0x5a

abbrev pub 'h' : ℕ
'h' = 0x68
