use Rattle.sipd_matrix.proofs.Written.{one_more}
use Rattle.sipd_matrix_forms.specs.Html.{class_row}
use Rattle.sipd_matrix_forms.proofs.html.put_classes.Goals as goal

pub loop-class-preserved : goal.loop-class-preserved
loop-class-preserved c =
    let matrix = c.args.matrix.now in
    one_more (class_row matrix.config.now matrix.operation.now matrix.table.now c.args.piece) c.args.classes.now c.loop-class.class-index c.class-item.result
    c.args.text.now c.loop-class.text c.put_class.new.text c.loop-class-test.true c.class-item.is c.loop-class.invariant c.in_ok-put_class.ensures
