-- The calls on a record by number: their places in include/vhart.h.
use Rattle.std.specs.Prelude.{ℕ, cond, eqb}
use Rattle.session.specs.declared.entries.Entry.{Entry}
use Rattle.session.specs.declared.entries.Entry.TheVariants.{Fresh, Read, Write, Csrrw, Csrrs, Csrrc, Csrrwi, Csrrsi, Csrrci, Pending, Inject, Trap, Mret, Sret}

-- any other number is csrrci
abbrev pub entry_numbered : ℕ → Entry
entry_numbered n =
    cond (eqb n 0) Fresh
    (cond (eqb n 1) Read
    (cond (eqb n 2) Write
    (cond (eqb n 3) Csrrw
    (cond (eqb n 4) Csrrs
    (cond (eqb n 5) Csrrc
    (cond (eqb n 6) Csrrwi
    (cond (eqb n 7) Csrrsi
    (cond (eqb n 9) Pending
    (cond (eqb n 10) Inject
    (cond (eqb n 11) Trap
    (cond (eqb n 12) Mret
    (cond (eqb n 13) Sret
    Csrrci))))))))))))
