use Rattle.std.proofs.Common.{◌+◌, take, drop, get_or, arith}
use Rattle.std.proofs.lemmas.List.{drop_more, drop_all}
use Rattle.maps.specs.Banks.{end_of}
use Rattle.maps.proofs.Places.{no_bank, order_behind, short_at, none_earlier}
use Rattle.maps.proofs.banks.BankMap.cell_below.Goals as goal

pub returns-then-cell-bank : goal.returns-then-cell-bank
returns-then-cell-bank c =
    let banks = take c.args.self.now.used c.args.self.now.banks in
    let bank = get_or banks c.loop-bank.bank-index no_bank in
    grind (arith, drop_more, none_earlier c.args.self.now.count (end_of bank) (c.loop-bank.before + bank.length) c.args.cell (drop (c.loop-bank.bank-index + 1) banks))

pub returns-then-inside : goal.returns-then-inside
returns-then-inside c = grind (arith, drop_more)

pub loop-bank-preserved : goal.loop-bank-preserved
loop-bank-preserved c =
    let banks = take c.args.self.now.used c.args.self.now.banks in (
      grind (arith, drop_more),
      order_behind c.args.self.now.count c.loop-bank.bank-index banks (omega arith) c.loop-bank.invariant.1,
      grind (arith, short_at c.args.self.now.count c.loop-bank.bank-index banks (omega arith) c.loop-bank.invariant.1),
    )

pub returns : goal.returns
returns c = grind (arith, drop_all)
